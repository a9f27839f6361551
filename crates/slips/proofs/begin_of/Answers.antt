-- `begin_of` meets its contract. The invariant: the lines from here are those from the start, less the lines passed. Assumes nothing.
use Rattle.slips.proofs.Steps.{line-last, line-here, line-passed, line-within}
use native.Mathlib.Omega.{arith}
use Prim.Native.Nat.{◌-◌}
use mathlib.Core.Path.{refl, sym, ◌∙◌}
use Rattle.slips.proofs.begin_of.Goals as goal

pub loop-at-init : goal.loop-at-init
loop-at-init c = (refl, omega arith)

pub returns-then-left-le1 : goal.returns-then-left-le1
returns-then-left-le1 c =
    record { text_value = line-here c.args.text.now c.loop-at.at c.loop-at.left c.loop-at-test.true c.if-left-le1.true ∙ sym c.loop-at.invariant.0; upper_bound = c.loop-at.invariant.1 }

pub loop-at-preserved-then-text-at-eq10 : goal.loop-at-preserved-then-text-at-eq10
loop-at-preserved-then-text-at-eq10 c =
    (c.loop-at.invariant.0 ∙ line-passed c.args.text.now c.loop-at.at c.loop-at.left c.loop-at-test.true c.if-left-le1.false c.if-text-at-eq10.true, omega arith)

pub loop-at-preserved : goal.loop-at-preserved
loop-at-preserved c =
    (c.loop-at.invariant.0 ∙ line-within c.args.text.now c.loop-at.at c.loop-at.left c.loop-at-test.true c.if-left-le1.false c.if-text-at-eq10.false, omega arith)

pub returns : goal.returns
returns c =
    record { text_value = line-last c.args.text.now c.loop-at.at c.loop-at.left c.loop-at-test.false ∙ sym c.loop-at.invariant.0; upper_bound = c.loop-at.invariant.1 }
