use Rattle.std.proofs.Common.{rules}
use Rattle.tokens.proofs.Steps.{at-end, at_byte}
use Rattle.operator_reader.specs.Parsing.{parse_prefix}
use Rattle.operator_reader.proofs.Operators.{prefix-other}
use Rattle.operator_reader.proofs.prefix.Goals as goal

pub returns-in_err-get-clause-result_value : goal.returns-in_err-get-clause-result_value
unfolding parse_prefix
returns-in_err-get-clause-result_value c = rw (c.from_residual.ensures, at-end _ _ c.in_err-get.ensures.lookup.3)

pub returns-in-33-clause-result_value : goal.returns-in-33-clause-result_value
unfolding parse_prefix
returns-in-33-clause-result_value c =
    let h = c.in_ok-get.ensures.lookup.3 in rw (at_byte _ _ h.0, ← h.1 0, c.in-33.is)

pub returns-in-69-clause-result_value : goal.returns-in-69-clause-result_value
unfolding parse_prefix
returns-in-69-clause-result_value c =
    let h = c.in_ok-get.ensures.lookup.3 in rw (at_byte _ _ h.0, ← h.1 0, c.in-69.is) c.unary_letter.ensures.result_value

pub returns-in-65-clause-result_value : goal.returns-in-65-clause-result_value
unfolding parse_prefix
returns-in-65-clause-result_value c =
    let h = c.in_ok-get.ensures.lookup.3 in rw (at_byte _ _ h.0, ← h.1 0, c.in-65.is) c.unary_letter-in-65.ensures.result_value

pub returns-in_default-clause-result_value : goal.returns-in_default-clause-result_value
returns-in_default-clause-result_value c = let h = c.in_ok-get.ensures.lookup.3 in rw (at_byte _ _ h.0, ← h.1 0) (search (rules, prefix-other))
