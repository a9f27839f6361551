use Prim.Native.Nat.{◌-◌}
use lib.ListN.{length}
use Rattle.start.proofs.Lines.{SoFar}
use Rattle.start.proofs.read.Given as goal

abbrev pub invariant-loop-at : goal.invariant-loop-at
invariant-loop-at l = SoFar l.s l.numbers l.at l.k l.n

abbrev pub decreases-loop-at : goal.decreases-loop-at
decreases-loop-at l = length l.s - l.at
