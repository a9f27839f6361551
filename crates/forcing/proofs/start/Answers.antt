-- `forcing::start` meets its contract. The places below s have their numbers, and those of the goal are queued.
-- Assumes nothing.
use mathlib.Core.Path.{sym, ◌∙◌}
use native.Mathlib.Omega.{arith}
use Rattle.bits.proofs.Counts.{count-le}
use Rattle.bits.specs.Row.{member}
use Rattle.forcing.proofs.Steps.{started-skip, started-join}
use Rattle.forcing.proofs.start.Goals as goal
use Rattle.forcing.proofs.start.Goals.{then-contains, else-contains}

pub offset_bounds-queue-h : goal.offset_bounds-queue-h
offset_bounds-queue-h c = omega (arith, c.loop-s.invariant.gathered.fit, count-le (member c.args.goal.now) c.loop-s.s)

pub bounds-queue-h : goal.bounds-queue-h
bounds-queue-h c = omega (arith, c.loop-s.invariant.gathered.fit, count-le (member c.args.goal.now) c.loop-s.s)

pub overflow_add-h : goal.overflow_add-h
overflow_add-h c = omega (arith, c.loop-s.invariant.gathered.fit, count-le (member c.args.goal.now) c.loop-s.s)

pub loop-s-preserved : goal.loop-s-preserved
loop-s-preserved c = elim c.if-contains.branch [
  | then-contains w ↦ rw (w.numbers-is, w.queue-is, w.h-is)
      (started-join _ _ _ _ _ c.loop-s.invariant (omega arith) (sym c.contains.ensures ∙ w.if-contains.true) (omega (arith, c.loop-s.invariant.gathered.fit, count-le (member c.args.goal.now) c.loop-s.s)))
  | else-contains w ↦ rw (w.numbers-is, w.queue-is, w.h-is) (started-skip _ _ _ _ _ c.loop-s.invariant (omega arith) (sym c.contains.ensures ∙ w.if-contains.false))
]
