use mathlib.Core.Path.{◌≡◌}
use Prim.Native.Nat.{◌+◌}
use lib.ListN.{length, get_or}
use Rattle.bits.specs.Row.{member}
use Rattle.graph.specs.Lists.{listed}
use Rattle.worklist.proofs.Stack.{Walked}
use Rattle.forcing.specs.Search.{Visited}
use Rattle.forcing.specs.Numbers.{number_of}
use Rattle.forcing.proofs.visit.Given as goal

abbrev pub invariant-loop-k : goal.invariant-loop-k
invariant-loop-k l =
    (length l.rest ≡ length l.initial.rest) × (length l.numbers ≡ length l.initial.numbers) × (length l.queue ≡ length l.initial.queue) × Walked l.opposite.head.now l.opposite.link.now l.opposite.to.now (length l.steps.head.now) (get_or l.initial.queue l.at 0) l.k
    × Visited l.steps.head.now l.steps.link.now l.steps.to.now (member l.mine) (member l.set) l.rest l.initial.numbers l.numbers l.queue (l.at + 1) l.h (number_of l.initial.numbers (get_or l.initial.queue l.at 0)) (listed l.opposite.link.now l.opposite.to.now l.k)

abbrev pub decreases-loop-k : goal.decreases-loop-k
decreases-loop-k l = l.k
