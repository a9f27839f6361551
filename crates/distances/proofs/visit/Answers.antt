-- `distances::visit` meets its contract. The invariant is `Visiting` at position k of the list of predecessors: those that are left are due. Assumes nothing.
use Rattle.distances.proofs.Breadth.{searched-low, visiting-first, visiting-skip, visiting-room, visiting-join, visiting-last}
use Rattle.worklist.proofs.Stack.{walk_first, walk-each, walk-low}
use Rattle.graph.specs.Lists.{listed}
use Rattle.graph.proofs.Walk.{passed-next, passed_first}
use Rattle.graph.proofs.Lists.{listed-end}
use Rattle.base.proofs.Bools.{clash}
use lib.ListN.{length-set, get_or}
use native.Mathlib.Omega.{arith}
use Prim.Native.Nat.{ℕ, ◌+◌}
use mathlib.Core.Path.{◌≡◌, refl, sym, ap, ◌∙◌}
use Rattle.distances.proofs.visit.Goals as goal

pub offset_bounds-queue-at : goal.offset_bounds-queue-at
offset_bounds-queue-at c = omega (arith, c.requires.space.small, (searched-low _ _ _ _ _ _ _ _ _ c.requires.at_lt_hi.1.1 c.requires.at_lt_hi.0).0)

pub bounds-queue-at : goal.bounds-queue-at
bounds-queue-at c = omega (arith, c.requires.space.queue_room, (searched-low _ _ _ _ _ _ _ _ _ c.requires.at_lt_hi.1.1 c.requires.at_lt_hi.0).0)

pub loop-k-init : goal.loop-k-init
loop-k-init c =
    let e : c.wide-k.result ≡ get_or c.args.opposite.head.now (get_or c.args.queue.now c.args.at 0) 0 = c.wide-k.ensures ∙ ap (λ (i : ℕ). get_or c.args.opposite.head.now i 0) c.wide-t.ensures in
    (refl, refl, walk_first _ _ _ _ _ _ c.requires.space.linked refl e, λ goal w. rw e (visiting-first _ _ _ _ _ _ _ _ _ w c.requires.at_lt_hi.0))

pub bounds-queue-h : goal.bounds-queue-h
bounds-queue-h c =
    let low = walk-low c.args.opposite.head.now _ _ _ _ _ c.loop-k.invariant.2 c.loop-k-test.true _ c.wide-s.ensures in
    let v = c.loop-k.invariant.3 c.requires.at_lt_hi.1.0 c.requires.at_lt_hi.1.1 in
    omega (arith, c.requires.space.queue_room, c.loop-k.invariant.1, visiting-room _ _ _ _ _ _ _ _ _ _ _ _ v _ _ (walk-each c.args.opposite.head.now _ _ _ _ _ c.loop-k.invariant.2 c.loop-k-test.true _ c.wide-s.ensures _ refl) low (c.loop-k.invariant.0 ∙ c.requires.space.numbers_size) (sym c.joins.ensures ∙ c.if-joins.true))

pub loop-k-preserved-then-joins : goal.loop-k-preserved-then-joins
loop-k-preserved-then-joins c =
    let pos = c.loop-k-test.true in
    let low = walk-low c.args.opposite.head.now _ _ _ _ _ c.loop-k.invariant.2 pos _ c.wide-s.ensures in (
      length-set c.loop-k.numbers c.wide-s.result (get_or c.args.numbers.now c.wide-t.result 0 + 1) ∙ c.loop-k.invariant.0,
      length-set c.loop-k.queue c.loop-k.h c.wide-s.result ∙ c.loop-k.invariant.1,
      passed-next _ _ _ _ _ _ _ c.loop-k.invariant.2 pos _ c.wide-k-in-loop-k.ensures (λ e. clash refl e),
      λ goal v. rw c.wide-t.ensures
          (visiting-join _ _ _ _ _ _ _ _ _ _ _ _ (c.loop-k.invariant.3 goal v) _ _ (walk-each c.args.opposite.head.now _ _ _ _ _ c.loop-k.invariant.2 pos _ c.wide-s.ensures _ c.wide-k-in-loop-k.ensures) low (c.loop-k.invariant.0 ∙ c.requires.space.numbers_size)
          (sym c.joins.ensures ∙ c.if-joins.true) (omega (arith, c.requires.space.queue_room, c.loop-k.invariant.1)) c.requires.space.small (ap (listed c.args.opposite.link.now c.args.opposite.to.now (get_or c.args.opposite.head.now (get_or c.args.queue.now c.args.at 0) 0)) c.wide-s.ensures ∙ passed_first _ _ _ _ _ _ _ c.loop-k.invariant.2 pos)),
    )

pub loop-k-preserved : goal.loop-k-preserved
loop-k-preserved c =
    let pos = c.loop-k-test.true in (
      c.loop-k.invariant.0,
      c.loop-k.invariant.1,
      passed-next _ _ _ _ _ _ _ c.loop-k.invariant.2 pos _ c.wide-k-in-loop-k.ensures (λ e. clash refl e),
      λ goal v. visiting-skip _ _ _ _ _ _ _ _ _ _ _ _ (c.loop-k.invariant.3 goal v) _ _ (walk-each c.args.opposite.head.now _ _ _ _ _ c.loop-k.invariant.2 pos _ c.wide-s.ensures _ c.wide-k-in-loop-k.ensures) (sym c.joins.ensures ∙ c.if-joins.false),
    )

pub returns : goal.returns
returns c = λ goal w. visiting-last _ _ _ _ _ _ _ _ _ _ _ _ (c.loop-k.invariant.3 goal w) (λ s. let d : c.loop-k.k ≡ 0 = omega (arith, c.loop-k-test.false) in ap (λ (i : ℕ). listed c.args.opposite.link.now c.args.opposite.to.now i s) d ∙ listed-end c.args.opposite.link.now c.args.opposite.to.now s)

pub offset_bounds-queue-h : goal.offset_bounds-queue-h
offset_bounds-queue-h c = let low = walk-low c.args.opposite.head.now _ _ _ _ _ c.loop-k.invariant.2 c.loop-k-test.true _ c.wide-s.ensures in
    let v = c.loop-k.invariant.3 c.requires.at_lt_hi.1.0 c.requires.at_lt_hi.1.1 in
    omega (arith, c.well_formed, c.loop-k.invariant.1, c.requires.space.queue_room, visiting-room _ _ _ _ _ _ _ _ _ _ _ _ v _ _ (walk-each c.args.opposite.head.now _ _ _ _ _ c.loop-k.invariant.2 c.loop-k-test.true _ c.wide-s.ensures _ refl) low (c.loop-k.invariant.0 ∙ c.requires.space.numbers_size) (sym c.joins.ensures ∙ c.if-joins.true))

pub overflow_add-h : goal.overflow_add-h
overflow_add-h c = let low = walk-low c.args.opposite.head.now _ _ _ _ _ c.loop-k.invariant.2 c.loop-k-test.true _ c.wide-s.ensures in
    let v = c.loop-k.invariant.3 c.requires.at_lt_hi.1.0 c.requires.at_lt_hi.1.1 in
    omega (arith, c.well_formed, c.loop-k.invariant.1, c.requires.space.queue_room, visiting-room _ _ _ _ _ _ _ _ _ _ _ _ v _ _ (walk-each c.args.opposite.head.now _ _ _ _ _ c.loop-k.invariant.2 c.loop-k-test.true _ c.wide-s.ensures _ refl) low (c.loop-k.invariant.0 ∙ c.requires.space.numbers_size) (sym c.joins.ensures ∙ c.if-joins.true))
