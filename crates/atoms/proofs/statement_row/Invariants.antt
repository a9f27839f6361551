use Rattle.language.specs.declared.Statement.{Statement}
use Rattle.atoms.specs.Facts.{FactsIn}
use Rattle.codes.specs.Codes.{statement_code}
use Rattle.labelling.specs.Labels.{Labelled}
use Rattle.bits.specs.Row.{member}
use Rattle.program.specs.Program.{at}
use lib.ListN.{length}
use Prim.Native.Nat.{ℕ}
use mathlib.Core.List.{List}
use mathlib.Core.Path.{◌≡◌}
use Rattle.atoms.proofs.statement_row.Given as goal

abbrev pub invariant-loop-s : goal.invariant-loop-s
invariant-loop-s l = (length l.out ≡ length l.initial.out) × ((P : List Statement) (rows : List ℕ) (i : Statement) → l.c ≡ statement_code i → FactsIn P l.n rows l.codes → Labelled l.s (member l.out) (λ t. at P t ≡ i))
