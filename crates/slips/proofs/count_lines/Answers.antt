-- `count_lines` meets its contract. The invariant: what is counted from here is what is counted in all. Assumes nothing.
use Rattle.slips.proofs.Steps.{count-last, count_next, counted, uncounted, below}
use lib.ListN.{get_or}
use native.Mathlib.Omega.{arith}
use Prim.Native.Nat.{◌-◌}
use mathlib.Core.Path.{refl, sym, ◌∙◌}
use Rattle.slips.proofs.count_lines.Goals as goal

pub loop-at-init : goal.loop-at-init
loop-at-init c = (refl, omega arith, omega arith)

pub overflow_add-n : goal.overflow_add-n
overflow_add-n c = let t = c.args.text.now in omega (arith, below (get_or t c.loop-at.at 0) c.loop-at.n c.if-text-at.true)

pub loop-at-preserved-then-text-at : goal.loop-at-preserved-then-text-at
loop-at-preserved-then-text-at c =
    let t = c.args.text.now in
    (c.loop-at.invariant.0 ∙ count_next t c.loop-at.at c.loop-at.n c.loop-at-test.true ∙ rw (counted (get_or t c.loop-at.at 0) c.loop-at.n c.if-text-at.true), omega arith, omega (arith, below (get_or t c.loop-at.at 0) c.loop-at.n c.if-text-at.true))

pub loop-at-preserved : goal.loop-at-preserved
loop-at-preserved c =
    let t = c.args.text.now in
    (c.loop-at.invariant.0 ∙ count_next t c.loop-at.at c.loop-at.n c.loop-at-test.true ∙ rw (uncounted (get_or t c.loop-at.at 0) c.loop-at.n c.loop-at.invariant.2 c.if-text-at.false), omega arith, c.loop-at.invariant.2)

pub returns : goal.returns
returns c =
    sym (c.loop-at.invariant.0 ∙ count-last c.args.text.now c.loop-at.at c.loop-at.n c.loop-at-test.false)
