use Rattle.lines.proofs.Reading.{SoFar}
use Rattle.marks.specs.Marks.{spell_mark, ValidMark}
use lib.ListN.{length}
use Prim.Native.Nat.{◌-◌}
use Rattle.marks.proofs.read.check.Given as goal

abbrev pub invariant-loop-at : goal.invariant-loop-at
invariant-loop-at l = SoFar spell_mark ValidMark l.s l.count l.at

abbrev pub decreases-loop-at : goal.decreases-loop-at
decreases-loop-at l = length l.s - l.at
