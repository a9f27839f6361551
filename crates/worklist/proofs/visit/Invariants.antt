use mathlib.Core.Path.{◌≡◌}
use lib.ListN.{length}
use Rattle.bits.specs.Row.{member}
use Rattle.ctl.specs.Paths.{quant}
use Rattle.graph.specs.Lists.{listed}
use Rattle.worklist.specs.Worklist.{Visited}
use Rattle.worklist.proofs.Stack.{Walked}
use Rattle.worklist.proofs.visit.Given as goal

abbrev pub invariant-loop-k : goal.invariant-loop-k
invariant-loop-k l =
    (length l.set ≡ length l.initial.set) × (length l.rest ≡ length l.initial.rest) × (length l.stack ≡ length l.initial.stack) × Walked l.opposite.head.now l.opposite.link.now l.opposite.to.now (length l.steps.head.now) l.t l.k
    × Visited (quant l.all) l.steps.head.now l.steps.link.now l.steps.to.now (member l.p) (member l.initial.set) (member l.set) l.rest l.stack l.height l.h (listed l.opposite.link.now l.opposite.to.now l.k)

abbrev pub decreases-loop-k : goal.decreases-loop-k
decreases-loop-k l = l.k
