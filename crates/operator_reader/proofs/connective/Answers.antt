use Rattle.std.proofs.Common.{rules, ◌∙◌}
use Rattle.tokens.proofs.Steps.{at-end, at_byte}
use Rattle.condition.specs.Condition.{conjunction, disjunction}
use Rattle.condition.specs.Words.{binary_code}
use Rattle.operator_reader.specs.Parsing.{parse_letter, by_letter}
use Rattle.operator_reader.proofs.Operators.{coded-ended, connective-other}
use Rattle.operator_reader.proofs.connective.Goals as goal

pub returns-in_err-get-clause-result_value : goal.returns-in_err-get-clause-result_value
unfolding parse_letter
returns-in_err-get-clause-result_value c = rw (c.from_residual.ensures, at-end _ _ c.in_err-get.ensures.lookup.3)

pub returns-in-38-clause-result_value : goal.returns-in-38-clause-result_value
unfolding parse_letter by_letter
returns-in-38-clause-result_value c =
    let h = c.in_ok-get.ensures.lookup.3 in rw (at_byte _ _ h.0, ← h.1 0, c.in-38.is) (c.ended.ensures.result_value ∙ coded-ended binary_code conjunction _ _)

pub returns-in-124-clause-result_value : goal.returns-in-124-clause-result_value
unfolding parse_letter by_letter
returns-in-124-clause-result_value c =
    let h = c.in_ok-get.ensures.lookup.3 in rw (at_byte _ _ h.0, ← h.1 0, c.in-124.is) (c.ended-in-124.ensures.result_value ∙ coded-ended binary_code disjunction _ _)

pub returns-in_default-clause-result_value : goal.returns-in_default-clause-result_value
returns-in_default-clause-result_value c = let h = c.in_ok-get.ensures.lookup.3 in rw (at_byte _ _ h.0, ← h.1 0) (search (rules, connective-other))
