use Prim.Native.Nat.{◌-◌}
use lib.ListN.{length}
use Rattle.blame.proofs.Blames.{Good}
use Rattle.blame.proofs.first_broken.Given as goal

abbrev pub invariant-loop-at : goal.invariant-loop-at
invariant-loop-at l = Good l.text l.r l.n l.s l.at

abbrev pub decreases-loop-at : goal.decreases-loop-at
decreases-loop-at l = length l.text - l.at
