use Rattle.std.proofs.Common.{rules, ◌∙◌}
use Rattle.tokens.proofs.Steps.{at-end, at_byte}
use Rattle.ctl.specs.Paths.{forward, backward}
use Rattle.condition.specs.Condition.{next, finally, globally}
use Rattle.operator_reader.specs.Parsing.{quant_of, parse_letter, by_letter}
use Rattle.operator_reader.proofs.Operators.{unary-ended, unary-other}
use Rattle.operator_reader.proofs.unary_letter.Goals as goal

pub returns-in_err-get-clause-result_value : goal.returns-in_err-get-clause-result_value
unfolding parse_letter
returns-in_err-get-clause-result_value c = rw (c.from_residual.ensures, at-end _ _ c.in_err-get.ensures.lookup.3)

pub returns-in-88-clause-result_value : goal.returns-in-88-clause-result_value
unfolding parse_letter by_letter
returns-in-88-clause-result_value c =
    let h = c.in_ok-get.ensures.lookup.3 in rw (at_byte _ _ h.0, ← h.1 0, c.in-88.is) (c.ended.ensures.result_value ∙ unary-ended (quant_of c.args.quantifier) forward _ _ c.code-all.ensures next)

pub returns-in-70-clause-result_value : goal.returns-in-70-clause-result_value
unfolding parse_letter by_letter
returns-in-70-clause-result_value c =
    let h = c.in_ok-get.ensures.lookup.3 in rw (at_byte _ _ h.0, ← h.1 0, c.in-70.is) (c.ended-in-70.ensures.result_value ∙ unary-ended (quant_of c.args.quantifier) forward _ _ c.code-all.ensures finally)

pub returns-in-71-clause-result_value : goal.returns-in-71-clause-result_value
unfolding parse_letter by_letter
returns-in-71-clause-result_value c =
    let h = c.in_ok-get.ensures.lookup.3 in rw (at_byte _ _ h.0, ← h.1 0, c.in-71.is) (c.ended-in-71.ensures.result_value ∙ unary-ended (quant_of c.args.quantifier) forward _ _ c.code-all.ensures globally)

pub returns-in-89-clause-result_value : goal.returns-in-89-clause-result_value
unfolding parse_letter by_letter
returns-in-89-clause-result_value c =
    let h = c.in_ok-get.ensures.lookup.3 in rw (at_byte _ _ h.0, ← h.1 0, c.in-89.is) (c.ended-in-89.ensures.result_value ∙ unary-ended (quant_of c.args.quantifier) backward _ _ c.code-all.ensures next)

pub returns-in-82-clause-result_value : goal.returns-in-82-clause-result_value
unfolding parse_letter by_letter
returns-in-82-clause-result_value c =
    let h = c.in_ok-get.ensures.lookup.3 in rw (at_byte _ _ h.0, ← h.1 0, c.in-82.is) (c.ended-in-82.ensures.result_value ∙ unary-ended (quant_of c.args.quantifier) backward _ _ c.code-all.ensures finally)

pub returns-in-77-clause-result_value : goal.returns-in-77-clause-result_value
unfolding parse_letter by_letter
returns-in-77-clause-result_value c =
    let h = c.in_ok-get.ensures.lookup.3 in rw (at_byte _ _ h.0, ← h.1 0, c.in-77.is) (c.ended-in-77.ensures.result_value ∙ unary-ended (quant_of c.args.quantifier) backward _ _ c.code-all.ensures globally)

pub returns-in_default-clause-result_value : goal.returns-in_default-clause-result_value
returns-in_default-clause-result_value c = let h = c.in_ok-get.ensures.lookup.3 in rw (at_byte _ _ h.0, ← h.1 0) (search (rules, unary-other))
