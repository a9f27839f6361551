-- `walks::nearest` meets its contract. The invariant is `Nearing`: no edge that was passed leads to a smaller number. Assumes nothing.
use Rattle.walks.proofs.Steps.{edges-of, nearing-first, nearing-take, nearing-leave, nearing-last}
use Rattle.graph.proofs.Walk.{passed-room, passed-less}
use lib.ListN.{get_or}
use native.Mathlib.Omega.{arith}
use Prim.Native.Nat.{ℕ, ◌-◌}
use mathlib.Core.Path.{refl, ap, ◌∙◌}
use Rattle.walks.proofs.nearest.Goals as goal

pub overflow_sub-first : goal.overflow_sub-first
overflow_sub-first c = (edges-of _ _ _ c.args.s c.requires.linked.0 c.requires.linked.1 c.requires.s_in_bounds.0 _ c.wide-first.ensures).1

pub bounds-steps-first : goal.bounds-steps-first
bounds-steps-first c = (edges-of _ _ _ c.args.s c.requires.linked.0 c.requires.linked.1 c.requires.s_in_bounds.0 _ c.wide-first.ensures).3

pub overflow_sub-first-2 : goal.overflow_sub-first-2
overflow_sub-first-2 c = (edges-of _ _ _ c.args.s c.requires.linked.0 c.requires.linked.1 c.requires.s_in_bounds.0 _ c.wide-first.ensures).1

pub bounds-steps-first-2 : goal.bounds-steps-first-2
bounds-steps-first-2 c = (edges-of _ _ _ c.args.s c.requires.linked.0 c.requires.linked.1 c.requires.s_in_bounds.0 _ c.wide-first.ensures).2

pub loop-k-init : goal.loop-k-init
loop-k-init c =
    let e = edges-of c.args.steps.head.now _ _ c.args.s c.requires.linked.0 c.requires.linked.1 c.requires.s_in_bounds.0 _ refl in
    nearing-first _ _ _ _ _ e.0 e.1 _ _ (c.wide-k.ensures ∙ ap (λ (i : ℕ). get_or c.args.steps.link.now (i - 1) 0) c.wide-first.ensures)
    (c.wide-best.ensures ∙ ap (λ (i : ℕ). get_or c.args.steps.to.now (i - 1) 0) c.wide-first.ensures)

pub offset_bounds-numbers-t : goal.offset_bounds-numbers-t
offset_bounds-numbers-t c = omega (arith, c.well_formed, c.requires.s_in_bounds.1, c.wide-t.ensures, (passed-room _ _ _ _ _ _ _ c.loop-k.invariant.passed c.loop-k-test.true).2)

pub bounds-numbers-t : goal.bounds-numbers-t
bounds-numbers-t c = omega (arith, c.requires.s_in_bounds.1, c.wide-t.ensures, (passed-room _ _ _ _ _ _ _ c.loop-k.invariant.passed c.loop-k-test.true).2)

pub offset_bounds-numbers-best : goal.offset_bounds-numbers-best
offset_bounds-numbers-best c = omega (arith, c.well_formed, c.requires.s_in_bounds.1, c.loop-k.invariant.low)

pub bounds-numbers-best : goal.bounds-numbers-best
bounds-numbers-best c = omega (arith, c.requires.s_in_bounds.1, c.loop-k.invariant.low)

pub loop-k-preserved-then-numbers-t : goal.loop-k-preserved-then-numbers-t
loop-k-preserved-then-numbers-t c = nearing-take _ _ _ _ _ _ _ c.loop-k.invariant c.loop-k-test.true _ c.wide-t.ensures _ c.wide-k-in-loop-k.ensures c.if-numbers-t.true

pub loop-k-smaller : goal.loop-k-smaller
loop-k-smaller c = rw c.wide-k-in-loop-k.ensures (passed-less _ _ _ _ _ _ _ c.loop-k.invariant.passed c.loop-k-test.true)

pub loop-k-preserved : goal.loop-k-preserved
loop-k-preserved c = nearing-leave _ _ _ _ _ _ _ c.loop-k.invariant c.loop-k-test.true _ c.wide-t.ensures _ c.wide-k-in-loop-k.ensures c.if-numbers-t.false

pub returns : goal.returns
returns c = let w = nearing-last _ _ _ _ _ _ _ c.loop-k.invariant c.loop-k-test.false in record { goes = w.0; least = w.1 }
