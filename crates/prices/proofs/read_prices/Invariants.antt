use Prim.Native.Nat.{◌-◌}
use lib.ListN.{length}
use Rattle.prices.proofs.Reading.{SoFar}
use Rattle.prices.proofs.read_prices.Given as goal

abbrev pub invariant-loop-at : goal.invariant-loop-at
invariant-loop-at l = SoFar l.text l.initial.table l.table l.at l.k

abbrev pub decreases-loop-at : goal.decreases-loop-at
decreases-loop-at l = length l.text - l.at
