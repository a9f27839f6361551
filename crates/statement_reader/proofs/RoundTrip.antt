-- Reading a line that was written gives the same statement. Assumes nothing.
use mathlib.Core.Path.{◌≡◌, refl, sym, ap}
use mathlib.Core.List.{List, ◌∷◌, ◌++◌}
use Prim.Native.Nat.{ℕ}
use lib.ListN.{drop}
use Rattle.std.specs.Prelude.{Option, Some, None}
use Rattle.language.specs.Spelling.{spell, Valid}
use Rattle.statement_reader.specs.Reading.{LineRead}
use Rattle.language.specs.declared.Statement.{Statement}
use Rattle.statement_reader.proofs.Lines.{line-unique}

-- whatever is read at the start of a valid statement's line is that statement, and what follows is what follows the line
pub line-read-written : (s : Statement) (rest : List ℕ) → Valid s → (r : Option (Statement × ℕ)) → LineRead (spell s ++ 10 ∷ rest) 0 r
    → (k : ℕ) × (r ≡ Some (s, k)) × (drop k (spell s ++ 10 ∷ rest) ≡ rest)
line-read-written s rest v (Some r) l =
    let u = line-unique s r.0 rest (drop r.1 (spell s ++ 10 ∷ rest)) v l.valid l.stands in
    (r.1, ap (λ (x : Statement). Some (x, r.1)) (sym u.0), sym u.1)
line-read-written s rest v None l = absurd (l s rest v refl)
