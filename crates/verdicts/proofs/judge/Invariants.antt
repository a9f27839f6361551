use mathlib.Core.List.{List}
use mathlib.Core.Path.{◌≡◌}
use Prim.Native.Nat.{◌-◌}
use lib.ListN.{length}
use Rattle.verdicts.proofs.Lists.{JudgedSoFar}
use Rattle.published_rows.specs.Memory.{Remembering}
use Rattle.marks.specs.declared.Mark.{Mark}
use Rattle.marks.specs.Reading.{Taken}
use Rattle.program.specs.Program.{row_words}
use Rattle.program.specs.Reading.{statements}
use Rattle.verdicts.proofs.judge.Given as goal

abbrev pub invariant-loop-at : goal.invariant-loop-at
invariant-loop-at l =
    (length l.verdicts ≡ length l.initial.verdicts) × (length l.named ≡ row_words)
    × ((ms : List Mark) → Taken l.marks ms → JudgedSoFar (statements l.p) l.marks ms l.initial.verdicts l.verdicts l.named l.reused l.j l.at)
    × Remembering l.n l.rows l.codes l.flow l.keys l.memory

abbrev pub decreases-loop-at : goal.decreases-loop-at
decreases-loop-at l = length l.marks - l.at
