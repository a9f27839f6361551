-- `explain::below_negations` meets its contract. The invariant is `Looking`. Assumes nothing.
use Rattle.table.proofs.Whole.{held-few}
use Rattle.explain.proofs.Parts.{looking-first, looking-next, looking-last}
use native.Mathlib.Omega.{arith}
use Rattle.explain.proofs.below_negations.Goals as goal

pub loop-j-init : goal.loop-j-init
loop-j-init c = looking-first _ _ _

pub offset_bounds-words-j : goal.offset_bounds-words-j
offset_bounds-words-j c = omega (arith, c.loop-j.invariant.low, c.requires.1, held-few c.requires.0.held)

pub bounds-words-j : goal.bounds-words-j
bounds-words-j c = omega (arith, c.loop-j.invariant.low, c.requires.1, held-few c.requires.0.held)

pub overflow_sub-j : goal.overflow_sub-j
overflow_sub-j c = (looking-next _ _ _ _ c.loop-j.invariant c.requires.1 c.requires.0 c.loop-j-test.true).0

pub loop-j-smaller : goal.loop-j-smaller
loop-j-smaller c = omega (arith, (looking-next _ _ _ _ c.loop-j.invariant c.requires.1 c.requires.0 c.loop-j-test.true).0)

pub loop-j-preserved : goal.loop-j-preserved
loop-j-preserved c = (looking-next _ _ _ _ c.loop-j.invariant c.requires.1 c.requires.0 c.loop-j-test.true).1

pub returns : goal.returns
returns c = looking-last _ _ _ _ c.loop-j.invariant c.requires.1 c.loop-j-test.false
