-- `worklist::visit` meets its contract. The invariant is the contract at position k of the list of predecessors: those that
-- are left are due. Assumes nothing.
use mathlib.Core.Path.{refl, ◌∙◌}
use Rattle.std.proofs.Common.{◌<◌, length}
use native.Mathlib.Omega.{arith}
use lib.ListN.{length-set}
use Rattle.base.proofs.Bools.{clash}
use Rattle.graph.proofs.Walk.{passed-next}
use Rattle.worklist.proofs.Rest.{joins-ready}
use Rattle.worklist.proofs.Stack.{walk_first, walk-each, walk-low, walk-joins, visit-first, visit-skip, visit-join, visit-last, work-room}
use Rattle.worklist.proofs.visit.Goals as goal

pub loop-k-init : goal.loop-k-init
loop-k-init c =
    let v = c.requires.visit in (
      refl,
      refl,
      refl,
      walk_first _ _ _ _ _ _ c.requires.turned.back c.requires.turned.entry_size c.from-k.ensures,
      visit-first _ _ _ _ _ _ _ _ _ _ v.seen (rw c.from-k.ensures v.work),
    )

pub returns : goal.returns
returns c = visit-last _ _ _ _ _ _ _ _ _ _ _ _ _ _ c.loop-k-test.false c.loop-k.invariant.4

pub offset_bounds-stack-h : goal.offset_bounds-stack-h
offset_bounds-stack-h c =
    let low = walk-low c.args.opposite.head.now _ _ _ _ _ c.loop-k.invariant.3 c.loop-k-test.true _ c.from-s.ensures in
    let room : c.loop-k.h < length c.args.stack.now = omega (arith, c.requires.space.stack_room, c.loop-k.invariant.2, work-room _ _ _ _ c.loop-k.invariant.4.work.fit low (c.joins.ensures.variant.0 c.if-joins.true).out) in
    omega (arith, c.loop-k.invariant.2)

pub bounds-stack-h : goal.bounds-stack-h
bounds-stack-h c =
    let low = walk-low c.args.opposite.head.now _ _ _ _ _ c.loop-k.invariant.3 c.loop-k-test.true _ c.from-s.ensures in
    omega (arith, c.requires.space.stack_room, c.loop-k.invariant.2, work-room _ _ _ _ c.loop-k.invariant.4.work.fit low (c.joins.ensures.variant.0 c.if-joins.true).out)

pub overflow_add-h : goal.overflow_add-h
overflow_add-h c =
    let low = walk-low c.args.opposite.head.now _ _ _ _ _ c.loop-k.invariant.3 c.loop-k-test.true _ c.from-s.ensures in
    let room : c.loop-k.h < length c.args.stack.now = omega (arith, c.requires.space.stack_room, c.loop-k.invariant.2, work-room _ _ _ _ c.loop-k.invariant.4.work.fit low (c.joins.ensures.variant.0 c.if-joins.true).out) in
    omega (arith, c.loop-k.invariant.2)

pub loop-k-preserved-then-joins : goal.loop-k-preserved-then-joins
loop-k-preserved-then-joins c =
    let pos = c.loop-k-test.true in
    let ready = c.joins.ensures.variant.0 c.if-joins.true in
    let low = walk-low c.args.opposite.head.now _ _ _ _ _ c.loop-k.invariant.3 pos _ c.from-s.ensures in (
      c.insert.auto.row ∙ c.loop-k.invariant.0,
      c.joins.auto.rest ∙ c.loop-k.invariant.1,
      length-set c.loop-k.stack c.loop-k.h c.from-s.result ∙ c.loop-k.invariant.2,
      passed-next _ _ _ _ _ _ _ c.loop-k.invariant.3 pos _ c.from-k-in-loop-k.ensures (λ e. clash refl e),
      visit-join _ _ _ _ _ _ _ _ _ _ (walk-each c.args.opposite.head.now _ _ _ _ _ c.loop-k.invariant.3 pos _ c.from-s.ensures _ c.from-k-in-loop-k.ensures) c.requires.turned.graph _ _ _ _ _ _ c.loop-k.invariant.4
          c.joins.ensures.rest_2 low ((let low = walk-low c.args.opposite.head.now _ _ _ _ _ c.loop-k.invariant.3 c.loop-k-test.true _ c.from-s.ensures in
          omega (arith, c.requires.space.stack_room, c.loop-k.invariant.2, work-room _ _ _ _ c.loop-k.invariant.4.work.fit low (c.joins.ensures.variant.0 c.if-joins.true).out)))
          (walk-joins c.args.opposite.head.now _ _ _ _ _ c.loop-k.invariant.3 pos _ c.from-s.ensures c.args.all _ _ _ c.requires.turned.opposite c.requires.visit.low (c.loop-k.invariant.4.grew.grows _ c.requires.visit.reached) ready)
          c.insert.ensures,
    )

pub loop-k-preserved : goal.loop-k-preserved
loop-k-preserved c =
    let pos = c.loop-k-test.true in (
      c.loop-k.invariant.0,
      c.joins.auto.rest ∙ c.loop-k.invariant.1,
      c.loop-k.invariant.2,
      passed-next _ _ _ _ _ _ _ c.loop-k.invariant.3 pos _ c.from-k-in-loop-k.ensures (λ e. clash refl e),
      visit-skip _ _ _ _ _ _ _ _ _ _ (walk-each c.args.opposite.head.now _ _ _ _ _ c.loop-k.invariant.3 pos _ c.from-s.ensures _ c.from-k-in-loop-k.ensures) _ _ _ _ _ c.loop-k.invariant.4 c.joins.ensures.rest_2
          (λ r. clash (c.joins.ensures.variant.1 (joins-ready c.args.all _ _ _ _ r)) c.if-joins.false),
    )
