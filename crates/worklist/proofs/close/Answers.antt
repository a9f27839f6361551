-- `worklist::close` meets its contract. The invariant: each place that is to join steps to one on the stack. The measure is
-- the number of places that are not in the set, and the height. Assumes nothing.
use mathlib.Core.Path.{refl, ◌∙◌}
use native.Mathlib.Omega.{arith}
use lib.ListN.{length}
use Rattle.bits.specs.Row.{member}
use Rattle.bits.proofs.Counts.{count-le}
use Rattle.ctl.proofs.Reach.{grew_none, grew-more}
use Rattle.worklist.proofs.Rest.{rest-first}
use Rattle.worklist.proofs.Stack.{work-first}
use Rattle.worklist.proofs.close.Goals as goal

pub loop-h-init : goal.loop-h-init
loop-h-init c = (
  refl,
  refl,
  refl,
  rest-first _ _ _ _ _ c.requires.rest_value,
  work-first _ _ _ _ c.requires.turned.graph _ _ _ c.gather-h.ensures,
  grew_none _ _ _ _ _,
)

pub offset_bounds-stack-h : goal.offset_bounds-stack-h
offset_bounds-stack-h c =
    omega (arith, c.requires.space.small, c.loop-h.invariant.4.fit, count-le (member c.loop-h.set) (length c.args.steps.head.now))

pub loop-h-smaller : goal.loop-h-smaller
loop-h-smaller c =
    let n = length c.args.steps.head.now in
    omega (arith, c.visit-h.ensures.paid, c.loop-h-test.true, count-le (member c.loop-h.set) n, count-le (member c.visit-h.new.set) n)

pub loop-h-preserved : goal.loop-h-preserved
loop-h-preserved c = (
  c.visit-h.auto.set ∙ c.loop-h.invariant.0,
  c.visit-h.auto.rest ∙ c.loop-h.invariant.1,
  c.visit-h.auto.stack ∙ c.loop-h.invariant.2,
  c.visit-h.ensures.seen,
  c.visit-h.ensures.work,
  grew-more _ _ _ _ c.requires.turned.graph _ _ _ c.loop-h.invariant.5 c.visit-h.ensures.grew,
)

pub bounds-stack-h : goal.bounds-stack-h
bounds-stack-h c =
    omega (arith, c.requires.space.stack_room, c.loop-h.invariant.2, c.gather-h.auto.stack, c.loop-h.invariant.4.fit, count-le (member c.loop-h.set) (length c.args.steps.head.now))
