-- `worklist::gather_word` meets its contract. The members before the lowest bit that is left are on the stack.
-- Assumes nothing.
use mathlib.Core.Path.{refl, ◌∙◌}
use Prim.Native.Nat.{◌+◌, ◌*◌}
use native.Mathlib.Omega.{arith}
use lib.ListN.{length-set}
use Rattle.worklist.proofs.Words.{lowest, left-first, left-next, upto-first, upto_next, upto-room, upto-none}
use Rattle.worklist.proofs.gather_word.Goals as goal

pub loop-left-init : goal.loop-left-init
loop-left-init c = (refl, left-first _ (c.type_inv.set c.args.k).fits, upto-first _ _ _ _ _ c.requires.gathered)

pub bounds-stack-h : goal.bounds-stack-h
bounds-stack-h c =
    omega (arith, c.requires.k_in_bounds.1, c.loop-left.invariant.0, upto-room _ _ _ _ _ _ c.if-s-n.false c.loop-left.invariant.2)

pub offset_bounds-stack-h : goal.offset_bounds-stack-h
offset_bounds-stack-h c =
    omega (arith, c.requires.k_in_bounds.2, upto-room _ _ _ _ _ _ c.if-s-n.false c.loop-left.invariant.2)

pub overflow_add-h : goal.overflow_add-h
overflow_add-h c =
    omega (arith, c.requires.k_in_bounds.2, upto-room _ _ _ _ _ _ c.if-s-n.false c.loop-left.invariant.2)

pub loop-left-preserved : goal.loop-left-preserved
loop-left-preserved c =
    let z = c.loop-left-test.true in (
      length-set c.loop-left.stack c.loop-left.h (c.args.k * 64 + lowest c.loop-left.left) ∙ c.loop-left.invariant.0,
      left-next _ _ c.loop-left.invariant.1 z,
      upto_next _ _ _ _ _ _ c.loop-left.invariant.1 z c.if-s-n.false (omega (arith, c.requires.k_in_bounds.1, c.loop-left.invariant.0)) c.loop-left.invariant.2,
    )

pub returns : goal.returns
returns c = upto-none _ _ _ _ _ (rw c.loop-left-test.false at c.loop-left.invariant.2)
