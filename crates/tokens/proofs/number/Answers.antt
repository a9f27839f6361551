use Rattle.std.proofs.Common.{arith, ◌<◌}
use Rattle.tokens.specs.Parsing.{parse_number}
use Rattle.tokens.proofs.Steps.{at-end, at_byte, digit-small, first-zero, first_more}
use Rattle.tokens.proofs.number.Goals as goal

pub returns-in_err-get-clause-result_value : goal.returns-in_err-get-clause-result_value
unfolding parse_number
returns-in_err-get-clause-result_value c = rw (c.from_residual.ensures, at-end _ _ c.in_err-get.ensures.lookup.3)

pub returns-in_err-first-clause-result_value : goal.returns-in_err-first-clause-result_value
unfolding parse_number
returns-in_err-first-clause-result_value c =
    let h = c.in_ok-get.ensures.lookup.3 in
    rw (at_byte _ _ h.0, ← h.1 0, ← c.in_err-first.ensures, c.from_residual-in_err-first.ensures)

pub digits-requires-clause-first_le_largest : goal.digits-requires-clause-first_le_largest
digits-requires-clause-first_le_largest c = let d : c.in_ok-first.first < 10 = digit-small _ _ c.in_ok-first.ensures in omega arith

pub returns-then-first-eq0-clause-result_value : goal.returns-then-first-eq0-clause-result_value
unfolding parse_number
returns-then-first-eq0-clause-result_value c =
    let h = c.in_ok-get.ensures.lookup.3 in
    rw (at_byte _ _ h.0, ← h.1 0, ← c.in_ok-first.ensures, first-zero _ _ c.if-first-eq0.true) c.zero.ensures.result_value

pub returns-else-first-eq0-clause-result_value : goal.returns-else-first-eq0-clause-result_value
unfolding parse_number
returns-else-first-eq0-clause-result_value c =
    let h = c.in_ok-get.ensures.lookup.3 in
    rw (at_byte _ _ h.0, ← h.1 0, ← c.in_ok-first.ensures, first_more _ _ c.if-first-eq0.false) c.digits.ensures.result_value
