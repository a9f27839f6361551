-- `at` meets its contract: each kind in its turn. Assumes nothing.
use Rattle.condition_slip.specs.ConditionSlip.{long, brackets, other, slip_at}
use borrow.Author.Tests.{ne_eqb}
use native.Mathlib.Omega.{arith}
use mathlib.Core.Path.{refl}
use Rattle.condition_slip.proofs.at.Goals as goal

pub returns-then-text-gt-MOST_BYTES : goal.returns-then-text-gt-MOST_BYTES
returns-then-text-gt-MOST_BYTES c = long c.if-text-gt-MOST_BYTES.true refl

pub returns-then-n-eq0 : goal.returns-then-n-eq0
unfolding slip_at
returns-then-n-eq0 c = other c.if-text-gt-MOST_BYTES.false (λ a. absurd (omega (arith, a.holds.before))) (rw c.if-n-eq0.true)

pub returns-then-closes : goal.returns-then-closes
returns-then-closes c = brackets c.if-text-gt-MOST_BYTES.false (rw c.if-closes.true at c.closes.ensures) refl

pub returns-then-n-marked : goal.returns-then-n-marked
unfolding slip_at
returns-then-n-marked c = other c.if-text-gt-MOST_BYTES.false (rw c.if-closes.false at c.closes.ensures) (rw (ne_eqb _ 0 c.if-n-eq0.false, rw c.marked.ensures at c.if-n-marked.true))

pub returns : goal.returns
unfolding slip_at
returns c = other c.if-text-gt-MOST_BYTES.false (rw c.if-closes.false at c.closes.ensures) (rw (ne_eqb _ 0 c.if-n-eq0.false, rw c.marked.ensures at c.if-n-marked.false) c.in_place.ensures)
