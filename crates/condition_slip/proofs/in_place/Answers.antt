-- `in_place` meets its contract: by the byte at the place. Assumes nothing.
use Rattle.condition_slip.specs.ConditionSlip.{place_slip}
use borrow.Author.Tests.{lt-ltb, le-ltb}
use mathlib.Core.Path.{sym, ◌∙◌}
use Rattle.condition_slip.proofs.in_place.Goals as goal

pub returns-then-text-k : goal.returns-then-text-k
unfolding place_slip
returns-then-text-k c = rw (le-ltb _ _ c.if-text-k.true)

pub returns-then-is_digit : goal.returns-then-is_digit
unfolding place_slip
returns-then-is_digit c = rw (lt-ltb _ _ c.if-text-k.false, sym c.is_digit.ensures ∙ c.if-is_digit.true) c.first_outside.ensures

pub returns : goal.returns
unfolding place_slip
returns c = rw (lt-ltb _ _ c.if-text-k.false, sym c.is_digit.ensures ∙ c.if-is_digit.false) (rw (c.byte_at.ensures, c.byte_at-2.ensures) at c.byte_slip.ensures)
