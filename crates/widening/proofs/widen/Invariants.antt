use Rattle.language.specs.declared.Statement.{Statement}
use mathlib.Core.Path.{◌≡◌}
use mathlib.Core.List.{List}
use Prim.Native.Nat.{ℕ, ◌-◌}
use lib.ListN.{length}
use Rattle.truth.specs.Truth.{uses_of}
use Rattle.atoms.specs.Facts.{fact_words}
use Rattle.table.specs.Known.{KnownBy, Known}
use Rattle.marks.specs.Reading.{Taken}
use Rattle.marks.specs.declared.Mark.{Mark}
use Rattle.rewriting.specs.Verdicts.{VerdictsBy}
use Rattle.widening.specs.Widening.{WidenedBelow}
use Rattle.marks.proofs.Walk.{Begins}
use Rattle.widening.proofs.widen.Given as goal

abbrev pub invariant-loop-at : goal.invariant-loop-at
invariant-loop-at l =
    (length l.rows ≡ fact_words)
    × ((ms : List Mark) → Taken l.marks ms → Begins l.marks ms l.j l.at)
    × ((P : List Statement) (n : ℕ) (codes : List (List ℕ)) (flow : List ℕ) → Known P n l.initial.rows codes flow
    → (ms : List Mark) → Taken l.marks ms → VerdictsBy (uses_of P) P ms l.verdicts → KnownBy (WidenedBelow P ms l.j) P n l.rows codes flow)

abbrev pub decreases-loop-at : goal.decreases-loop-at
decreases-loop-at l = length l.marks - l.at
