use mathlib.Core.Path.{◌≡◌}
use mathlib.Core.List.{List}
use Prim.Native.Nat.{◌-◌}
use lib.ListN.{length}
use Rattle.program.specs.Program.{most}
use Rattle.marks.specs.Reading as marks
use Rattle.marks.specs.declared.Mark.{Mark}
use Rattle.verdicts.proofs.Made.{MadeSoFar}
use Rattle.verdicts.proofs.rewrite.Given as goal

abbrev pub invariant-loop-at : goal.invariant-loop-at
invariant-loop-at l =
    (length l.entries ≡ most) × ((ms : List Mark) → marks.Taken l.marks ms → MadeSoFar l.p.entries l.entries l.marks ms l.verdicts l.accepted l.j l.at)

abbrev pub decreases-loop-at : goal.decreases-loop-at
decreases-loop-at l = length l.marks - l.at
