use Rattle.tokens.specs.Parsing.{parse_zero}
use Rattle.tokens.proofs.Steps.{at-end, at_byte}
use Rattle.tokens.proofs.zero.Goals as goal

pub returns-in-None-clause-result_value : goal.returns-in-None-clause-result_value
unfolding parse_zero
returns-in-None-clause-result_value c = rw (at-end _ _ c.in-None.ensures.lookup.3)

pub returns-in-Some-digit_of-clause-result_value : goal.returns-in-Some-digit_of-clause-result_value
unfolding parse_zero
returns-in-Some-digit_of-clause-result_value c =
    let h = c.in-Some.ensures.lookup.3 in
    rw (at_byte _ _ h.0, ← h.1 0, ← c.in-Some-digit_of.ensures)

pub returns-in-None-digit_of-clause-result_value : goal.returns-in-None-digit_of-clause-result_value
unfolding parse_zero
returns-in-None-digit_of-clause-result_value c =
    let h = c.in-Some.ensures.lookup.3 in
    rw (at_byte _ _ h.0, ← h.1 0, ← c.in-None-digit_of.ensures)
