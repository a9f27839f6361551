-- The lines before the position are read, and their prices stored.
use native.Mathlib.Omega.{arith}
use borrow.Author.Rules.{rules}
use Rattle.prices.proofs.Reading.{none_read, wrong, further, one_more, miscounted, taken}
use Rattle.prices.proofs.read_prices.Goals as goal

pub loop-at-init : goal.loop-at-init
loop-at-init c = none_read _ _

pub returns-in_default : goal.returns-in_default
returns-in_default c = wrong c.loop-at.invariant c.loop-at-test.true c.in_default.is c.line.ensures

pub overflow_add-k : goal.overflow_add-k
overflow_add-k c = omega (arith, c.loop-at.invariant.lines.paid, c.loop-at-test.true)

pub loop-at-smaller : goal.loop-at-smaller
loop-at-smaller c = further c.loop-at.invariant c.in-Some.is c.line.ensures

pub loop-at-preserved : goal.loop-at-preserved
loop-at-preserved c = one_more c.loop-at.invariant c.in-Some.is c.line.ensures c.store.ensures

pub returns-then-k-ne-KINDS : goal.returns-then-k-ne-KINDS
returns-then-k-ne-KINDS c = miscounted c.loop-at.invariant c.loop-at-test.false (λ e. omega (arith, c.if-k-ne-KINDS.true))

pub returns : goal.returns
returns c = taken c.loop-at.invariant c.loop-at-test.false (omega (arith, c.if-k-ne-KINDS.false)) (search rules)
