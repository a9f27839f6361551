use Rattle.review_reader.specs.Reading.{itself, Unbroken}
use Rattle.lines.proofs.Reading.{SoFar}
use lib.ListN.{length}
use Prim.Native.Nat.{◌-◌}
use Rattle.review_reader.proofs.line_count.Given as goal

abbrev pub invariant-loop-at : goal.invariant-loop-at
invariant-loop-at l = SoFar itself Unbroken l.s l.n l.at

abbrev pub decreases-loop-at : goal.decreases-loop-at
decreases-loop-at l = length l.s - l.at
