use Rattle.std.proofs.Common.{rules, ◌∙◌}
use Rattle.tokens.proofs.Steps.{at-end, at_byte}
use Rattle.ctl.specs.Paths.{forward, backward}
use Rattle.condition.specs.Condition.{until, weak}
use Rattle.operator_reader.specs.Parsing.{quant_of, parse_letter, by_letter}
use Rattle.operator_reader.proofs.Operators.{binary-ended, binary-other}
use Rattle.operator_reader.proofs.binary_letter.Goals as goal

pub returns-in_err-get-clause-result_value : goal.returns-in_err-get-clause-result_value
unfolding parse_letter
returns-in_err-get-clause-result_value c = rw (c.from_residual.ensures, at-end _ _ c.in_err-get.ensures.lookup.3)

pub returns-in-85-clause-result_value : goal.returns-in-85-clause-result_value
unfolding parse_letter by_letter
returns-in-85-clause-result_value c =
    let h = c.in_ok-get.ensures.lookup.3 in rw (at_byte _ _ h.0, ← h.1 0, c.in-85.is) (c.ended.ensures.result_value ∙ binary-ended (quant_of c.args.quantifier) forward _ _ c.code-all.ensures until)

pub returns-in-87-clause-result_value : goal.returns-in-87-clause-result_value
unfolding parse_letter by_letter
returns-in-87-clause-result_value c =
    let h = c.in_ok-get.ensures.lookup.3 in rw (at_byte _ _ h.0, ← h.1 0, c.in-87.is) (c.ended-in-87.ensures.result_value ∙ binary-ended (quant_of c.args.quantifier) forward _ _ c.code-all.ensures weak)

pub returns-in-83-clause-result_value : goal.returns-in-83-clause-result_value
unfolding parse_letter by_letter
returns-in-83-clause-result_value c =
    let h = c.in_ok-get.ensures.lookup.3 in rw (at_byte _ _ h.0, ← h.1 0, c.in-83.is) (c.ended-in-83.ensures.result_value ∙ binary-ended (quant_of c.args.quantifier) backward _ _ c.code-all.ensures until)

pub returns-in-66-clause-result_value : goal.returns-in-66-clause-result_value
unfolding parse_letter by_letter
returns-in-66-clause-result_value c =
    let h = c.in_ok-get.ensures.lookup.3 in rw (at_byte _ _ h.0, ← h.1 0, c.in-66.is) (c.ended-in-66.ensures.result_value ∙ binary-ended (quant_of c.args.quantifier) backward _ _ c.code-all.ensures weak)

pub returns-in_default-clause-result_value : goal.returns-in_default-clause-result_value
returns-in_default-clause-result_value c = let h = c.in_ok-get.ensures.lookup.3 in rw (at_byte _ _ h.0, ← h.1 0) (search (rules, binary-other))
