-- `begin_of` meets its contract. The invariant: line i of a list that is taken begins at the position. Assumes nothing.
use mathlib.Core.Path.{◌≡◌}
use native.Mathlib.Omega.{arith}
use Rattle.marks.proofs.Walk.{begins-first, text-line, line-found, line-next, begins-here, begins-beyond}
use Rattle.marks.proofs.read.begin_of.Goals as goal

pub loop-i-init : goal.loop-i-init
loop-i-init c = λ ms t. begins-first t.spells

pub returns-then-s-at : goal.returns-then-s-at
returns-then-s-at c = λ ms t. begins-beyond (c.loop-i.invariant ms t) c.if-s-at.true _ (omega arith)

pub returns-in_default : goal.returns-in_default
returns-in_default c = λ ms t.
    let b = c.loop-i.invariant ms t in
    absurd (line-found b c.in_default.is c.line.ensures (text-line b (omega arith)))

pub loop-i-preserved : goal.loop-i-preserved
loop-i-preserved c =
    λ ms t. line-next (c.loop-i.invariant ms t) c.in-Some.is c.line.ensures

pub returns : goal.returns
returns c = λ ms t.
    let e : c.loop-i.i ≡ c.args.j = omega arith in
    rw e at (begins-here (c.loop-i.invariant ms t))
