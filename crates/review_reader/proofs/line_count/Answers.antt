-- `line_count` meets its contract. The invariant: n lines end at the position. Assumes nothing.
use Rattle.review_reader.proofs.Walks.{counted-whole, counted-rest}
use Rattle.review_reader.proofs.Splits.{line_of}
use Rattle.review_reader.specs.Reading.{itself, Unbroken}
use Rattle.lines.proofs.Reading.{none_yet, one_more}
use native.Mathlib.Omega.{arith}
use Rattle.review_reader.proofs.line_count.Goals as goal

pub loop-at-init : goal.loop-at-init
loop-at-init c = none_yet itself Unbroken _

pub overflow_add-result : goal.overflow_add-result
overflow_add-result c = omega (arith, c.loop-at.invariant.paid)

pub returns-then-s-end : goal.returns-then-s-end
returns-then-s-end c = counted-rest c.loop-at.invariant c.line_end-end.ensures c.if-s-end.true c.loop-at-test.true

pub overflow_add-n : goal.overflow_add-n
overflow_add-n c = omega (arith, c.loop-at.invariant.paid)

pub loop-at-smaller : goal.loop-at-smaller
loop-at-smaller c = let x = c.line_end-end.ensures.from in omega arith

pub loop-at-preserved : goal.loop-at-preserved
loop-at-preserved c = one_more c.loop-at.invariant (line_of c.line_end-end.ensures c.if-s-end.false)

pub returns : goal.returns
returns c = counted-whole c.loop-at.invariant c.loop-at-test.false
