use Rattle.distances.specs.Search.{Searched, Visiting}
use Rattle.forcing.specs.Numbers.{number_of}
use Rattle.worklist.proofs.Stack.{Walked}
use Rattle.graph.specs.Lists.{listed}
use Rattle.bits.specs.Row.{member}
use lib.ListN.{length, get_or}
use Prim.Native.Nat.{ℕ, ◌+◌}
use mathlib.Core.Bool.{Bool}
use mathlib.Core.Path.{◌≡◌}
use Rattle.distances.proofs.visit.Given as goal

abbrev pub invariant-loop-k : goal.invariant-loop-k
invariant-loop-k l =
    (length l.numbers ≡ length l.initial.numbers) × (length l.queue ≡ length l.initial.queue) × Walked l.opposite.head.now l.opposite.link.now l.opposite.to.now (length l.opposite.head.now) (get_or l.initial.queue l.at 0) l.k
    × ((goal : ℕ → Bool) → Searched l.opposite.head.now l.opposite.link.now l.opposite.to.now (member l.through) goal l.initial.numbers l.initial.queue l.at l.hi
    → Visiting l.opposite.head.now l.opposite.link.now l.opposite.to.now (member l.through) goal l.numbers l.queue (get_or l.initial.queue l.at 0) (l.at + 1) l.h (number_of l.initial.numbers (get_or l.initial.queue l.at 0)) (listed l.opposite.link.now l.opposite.to.now l.k))

abbrev pub decreases-loop-k : goal.decreases-loop-k
decreases-loop-k l = l.k
