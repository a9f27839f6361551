use Rattle.language.specs.declared.Statement.{Statement}
use mathlib.Core.Path.{◌≡◌}
use mathlib.Core.List.{List}
use Prim.Native.Nat.{◌-◌}
use lib.ListN.{length}
use Rattle.truth.specs.Truth.{uses_of}
use Rattle.atoms.specs.Facts.{used_in}
use Rattle.table.specs.Known.{KnownIn}
use Rattle.marks.specs.Reading.{Taken}
use Rattle.marks.specs.declared.Mark.{Mark}
use Rattle.published_rows.specs.Memory.{Remembering}
use Rattle.rewriting.specs.Verdicts.{VerdictsBy}
use Rattle.widening.proofs.Again.{AgainSoFar}
use Rattle.marks.proofs.Walk.{Begins}
use Rattle.widening.proofs.judge_again.Given as goal

abbrev pub invariant-loop-at : goal.invariant-loop-at
invariant-loop-at l =
    (length l.verdicts ≡ length l.initial.verdicts)
    × ((ms : List Mark) → Taken l.marks ms → Begins l.marks ms l.j l.at)
    × ((P : List Statement) → KnownIn P l.n l.rows l.codes l.flow → (ms : List Mark) → Taken l.marks ms → VerdictsBy (uses_of P) P ms l.initial.verdicts
    → AgainSoFar (used_in l.rows) P ms l.initial.verdicts l.verdicts l.j)
    × Remembering l.n l.rows l.codes l.flow l.keys l.memory

abbrev pub decreases-loop-at : goal.decreases-loop-at
decreases-loop-at l = length l.marks - l.at
