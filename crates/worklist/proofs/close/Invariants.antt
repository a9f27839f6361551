use mathlib.Core.Path.{◌≡◌}
use mathlib.Core.Bool.{false}
use Prim.Native.Nat.{◌+◌, ◌-◌}
use lib.ListN.{length}
use Rattle.bits.specs.Row.{member, count_below}
use Rattle.ctl.specs.Paths.{quant}
use Rattle.ctl.specs.Tables.{Grew}
use Rattle.graph.specs.Lists.{step}
use Rattle.worklist.specs.Worklist.{Rest, Work}
use Rattle.worklist.proofs.close.Given as goal

abbrev pub invariant-loop-h : goal.invariant-loop-h
invariant-loop-h l =
    (length l.set ≡ length l.initial.set) × (length l.rest ≡ length l.initial.rest) × (length l.stack ≡ length l.initial.stack) × Rest l.steps.head.now l.steps.link.now l.steps.to.now l.rest (member l.set)
    × Work (quant l.all) (length l.steps.head.now) (step l.steps.head.now l.steps.link.now l.steps.to.now) (member l.p) (member l.set) l.stack l.h (λ _. false)
    × Grew (quant l.all) (length l.steps.head.now) (step l.steps.head.now l.steps.link.now l.steps.to.now) (member l.p) (member l.initial.set) (member l.set)

abbrev pub decreases-loop-h : goal.decreases-loop-h
decreases-loop-h l = length l.steps.head.now - count_below (member l.set) (length l.steps.head.now) + l.h
