-- `forcing::visit` meets its contract. The invariant is the contract at position k of the list of predecessors: those that are left are
-- due. Assumes nothing.
use mathlib.Core.Path.{refl, ap, ◌∙◌}
use Prim.Native.Nat.{◌+◌, ◌<◌}
use native.Mathlib.Omega.{arith}
use lib.ListN.{length, length-set, get_or}
use Rattle.base.proofs.Bools.{clash}
use Rattle.graph.proofs.Walk.{passed-next}
use Rattle.worklist.proofs.Stack.{walk-each, walk-low, work-room}
use Rattle.forcing.specs.Numbers.{numbered}
use Rattle.forcing.proofs.Steps.{visit-low, visited-last, visited-skip, visited-join, walk_step}
use Rattle.forcing.proofs.visit.Goals as goal

pub offset_bounds-queue-at : goal.offset_bounds-queue-at
offset_bounds-queue-at c = omega (arith, c.requires.space.small, (visit-low _ _ _ _ _ _ _ _ _ _ _ c.requires.visit).0)

pub bounds-queue-at : goal.bounds-queue-at
bounds-queue-at c = omega (arith, c.requires.space.queue_room, (visit-low _ _ _ _ _ _ _ _ _ _ _ c.requires.visit).0)

pub bounds-queue-h : goal.bounds-queue-h
bounds-queue-h c =
    let low = walk-low c.args.opposite.head.now _ _ _ _ _ c.loop-k.invariant.3 c.loop-k-test.true _ c.wide-s.ensures in
    omega (arith, c.requires.space.queue_room, c.loop-k.invariant.2, work-room _ _ _ _ c.loop-k.invariant.4.search.fit low (c.joins.ensures.variant.0 c.if-joins.true).out)

pub loop-k-preserved-then-joins : goal.loop-k-preserved-then-joins
loop-k-preserved-then-joins c =
    let pos = c.loop-k-test.true in
    let due = c.joins.ensures.variant.0 c.if-joins.true in
    let low = walk-low c.args.opposite.head.now _ _ _ _ _ c.loop-k.invariant.3 pos _ c.wide-s.ensures in
    let v = visit-low _ _ _ _ _ _ _ _ _ _ _ c.requires.visit in (
      c.joins.auto.rest ∙ c.loop-k.invariant.0,
      length-set c.loop-k.numbers c.wide-s.result (get_or c.args.numbers.now c.wide-t.result 0 + 1) ∙ c.loop-k.invariant.1,
      length-set c.loop-k.queue c.loop-k.h c.wide-s.result ∙ c.loop-k.invariant.2,
      passed-next _ _ _ _ _ _ _ c.loop-k.invariant.3 pos _ c.wide-k-in-loop-k.ensures (λ e. clash refl e),
      rw c.wide-t.ensures
          (visited-join _ _ _ _ _ _ _ _ _ _ _ _ _ _ _ _ (walk-each c.args.opposite.head.now _ _ _ _ _ c.loop-k.invariant.3 pos _ c.wide-s.ensures _ c.wide-k-in-loop-k.ensures) c.loop-k.invariant.4 c.joins.ensures.rest_2 low
          ((omega (arith, c.requires.space.numbers_size, c.loop-k.invariant.1, walk-low c.args.opposite.head.now _ _ _ _ _ c.loop-k.invariant.3 c.loop-k-test.true _ c.wide-s.ensures))) ((let low = walk-low c.args.opposite.head.now _ _ _ _ _ c.loop-k.invariant.3 c.loop-k-test.true _ c.wide-s.ensures in
          omega (arith, c.requires.space.queue_room, c.loop-k.invariant.2, work-room _ _ _ _ c.loop-k.invariant.4.search.fit low (c.joins.ensures.variant.0 c.if-joins.true).out))) (omega (arith, v.2, c.loop-k.invariant.4.search.range)) (omega (arith, v.0, v.2, c.requires.space.small)) (get_or c.args.queue.now c.args.at 0)
          (walk_step c.args.opposite.head.now _ _ _ _ _ c.loop-k.invariant.3 pos _ c.wide-s.ensures _ c.requires.turned.opposite v.1 (λ d. clash (ap (numbered c.loop-k.numbers) d ∙ (c.loop-k.invariant.4.search.taken _ c.requires.visit.reached).0) due.out))
          c.requires.visit.reached refl due v.3),
    )

pub loop-k-preserved : goal.loop-k-preserved
loop-k-preserved c =
    let pos = c.loop-k-test.true in (
      c.joins.auto.rest ∙ c.loop-k.invariant.0,
      c.loop-k.invariant.1,
      c.loop-k.invariant.2,
      passed-next _ _ _ _ _ _ _ c.loop-k.invariant.3 pos _ c.wide-k-in-loop-k.ensures (λ e. clash refl e),
      visited-skip _ _ _ _ _ _ _ _ _ _ _ _ _ _ _ _ (walk-each c.args.opposite.head.now _ _ _ _ _ c.loop-k.invariant.3 pos _ c.wide-s.ensures _ c.wide-k-in-loop-k.ensures) c.loop-k.invariant.4 c.joins.ensures.rest_2
          (λ j. clash (c.joins.ensures.variant.1 j) c.if-joins.false),
    )

pub returns : goal.returns
returns c = visited-last _ _ _ _ _ _ _ _ _ _ _ _ _ _ _ c.loop-k-test.false c.loop-k.invariant.4

pub offset_bounds-queue-h : goal.offset_bounds-queue-h
offset_bounds-queue-h c =
    let low = walk-low c.args.opposite.head.now _ _ _ _ _ c.loop-k.invariant.3 c.loop-k-test.true _ c.wide-s.ensures in
    let room : c.loop-k.h < length c.args.queue.now = omega (arith, c.requires.space.queue_room, c.loop-k.invariant.2, work-room _ _ _ _ c.loop-k.invariant.4.search.fit low (c.joins.ensures.variant.0 c.if-joins.true).out) in
    omega (arith, c.well_formed, c.loop-k.invariant.2)

pub overflow_add-h : goal.overflow_add-h
overflow_add-h c =
    let low = walk-low c.args.opposite.head.now _ _ _ _ _ c.loop-k.invariant.3 c.loop-k-test.true _ c.wide-s.ensures in
    let room : c.loop-k.h < length c.args.queue.now = omega (arith, c.requires.space.queue_room, c.loop-k.invariant.2, work-room _ _ _ _ c.loop-k.invariant.4.search.fit low (c.joins.ensures.variant.0 c.if-joins.true).out) in
    omega (arith, c.well_formed, c.loop-k.invariant.2)
