use Rattle.distances.specs.Search.{Searched}
use Rattle.bits.specs.Row.{member}
use lib.ListN.{length}
use Prim.Native.Nat.{◌-◌}
use mathlib.Core.Path.{◌≡◌}
use Rattle.distances.proofs.search.Given as goal

abbrev pub invariant-loop-at : goal.invariant-loop-at
invariant-loop-at l =
    (length l.numbers ≡ length l.initial.numbers) × (length l.queue ≡ length l.initial.queue) × Searched l.opposite.head.now l.opposite.link.now l.opposite.to.now (member l.through) (member l.goal) l.numbers l.queue l.at l.hi

abbrev pub decreases-loop-at : goal.decreases-loop-at
decreases-loop-at l = length l.opposite.head.now - l.at
