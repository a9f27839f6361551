-- `value_at` meets its contract. The invariant: what the digits from here make is what all make. Assumes nothing.
use borrow.Author.Tests.{not-true, not-false}
use Rattle.slips.proofs.Steps.{value-last, value-other, value-next}
use native.Mathlib.Omega.{arith}
use Prim.Native.Nat.{◌-◌}
use mathlib.Core.Path.{refl, sym, ◌∙◌}
use Rattle.slips.proofs.value_at.Goals as goal

pub loop-at-init : goal.loop-at-init
loop-at-init c = (refl, c.requires, omega arith)

pub returns-then-not-is_digit : goal.returns-then-not-is_digit
returns-then-not-is_digit c =
    sym (c.loop-at.invariant.0 ∙ value-other c.args.text.now c.loop-at.at c.loop-at.v c.loop-at-test.true (sym c.is_digit.ensures ∙ c.if-not-is_digit.true))

pub next-v-requires : goal.next-v-requires
next-v-requires c = record { c_value = sym c.is_digit.ensures ∙ c.if-not-is_digit.false; v_le_most_number = c.loop-at.invariant.2 }

pub loop-at-preserved : goal.loop-at-preserved
loop-at-preserved c =
    (c.loop-at.invariant.0 ∙ value-next c.args.text.now c.loop-at.at c.loop-at.v c.loop-at-test.true (sym c.is_digit.ensures ∙ c.if-not-is_digit.false) ∙ rw c.next-v.ensures, omega arith, omega (arith, c.next-v.ensures))

pub returns : goal.returns
returns c =
    sym (c.loop-at.invariant.0 ∙ value-last c.args.text.now c.loop-at.at c.loop-at.v c.loop-at-test.false)
