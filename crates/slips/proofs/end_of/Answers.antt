-- `end_of` meets its contract. The invariant: the line ends as far from here as from its begin. Assumes nothing.
use Rattle.slips.proofs.Steps.{end-last, end-here, end-next}
use native.Mathlib.Omega.{arith}
use Prim.Native.Nat.{◌-◌}
use mathlib.Core.Path.{refl}
use Rattle.slips.proofs.end_of.Goals as goal

pub loop-at-init : goal.loop-at-init
loop-at-init c = (refl, c.requires)

pub returns-then-text-at-eq10 : goal.returns-then-text-at-eq10
returns-then-text-at-eq10 c =
    omega (arith, c.loop-at.invariant.0, end-here c.args.text.now c.loop-at.at c.loop-at-test.true c.if-text-at-eq10.true)

pub loop-at-preserved : goal.loop-at-preserved
loop-at-preserved c =
    (omega (arith, c.loop-at.invariant.0, end-next c.args.text.now c.loop-at.at c.loop-at-test.true c.if-text-at-eq10.false), omega arith)

pub returns : goal.returns
returns c =
    omega (arith, c.loop-at.invariant.0, end-last c.args.text.now c.loop-at.at c.loop-at-test.false)
