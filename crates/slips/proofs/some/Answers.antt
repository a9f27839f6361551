-- `some` meets its contract. The invariant: what some byte from here shows is what some byte shows. Assumes nothing.
use Rattle.slips.proofs.Steps.{some-last, some-here, some_next}
use native.Mathlib.Omega.{arith}
use Prim.Native.Nat.{◌-◌}
use mathlib.Core.Path.{refl, sym, ◌∙◌}
use Rattle.slips.proofs.some.Goals as goal

pub loop-at-init : goal.loop-at-init
loop-at-init c = (refl, omega arith)

pub returns-then-shows : goal.returns-then-shows
returns-then-shows c =
    sym (c.loop-at.invariant.0 ∙ some-here c.args.text.now c.loop-at.at c.args.sign c.loop-at.p c.loop-at-test.true (sym c.shows.ensures ∙ c.if-shows.true))

pub loop-at-preserved : goal.loop-at-preserved
loop-at-preserved c =
    (c.loop-at.invariant.0 ∙ some_next c.args.text.now c.loop-at.at c.args.sign c.loop-at.p c.loop-at-test.true (sym c.shows.ensures ∙ c.if-shows.false), omega arith)

pub returns : goal.returns
returns c =
    c.shows-2.ensures ∙ sym (c.loop-at.invariant.0 ∙ some-last c.args.text.now c.loop-at.at c.args.sign c.loop-at.p c.loop-at-test.false)
