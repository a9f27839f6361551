-- From what is known of a part at a place to what `witness` answers. Assumes nothing.
use mathlib.Core.Path.{◌≡◌, refl, ◌∙◌}
use mathlib.Core.Bool.{Bool, true, false}
use mathlib.Core.List.{List}
use mathlib.Core.Logic.{◌↔◌}
use Prim.Native.Nat.{ℕ, ◌-◌}
use Rattle.base.proofs.Bools.{clash}
use Rattle.language.specs.declared.Statement.{Statement}
use Rattle.condition.specs.Condition.{Condition}
use Rattle.truth.specs.Truth.{Sat}
use Rattle.table.specs.Table.{part_at}
use Rattle.explain.specs.Explain.{Exists, Read, NoneTold, WitnessTold}
use Rattle.explain.specs.Parts.{Explained}
use Rattle.explain.specs.declared.Witnessed.{Witnessed}
use Rattle.explain.specs.declared.Witnessed.TheVariants.{Path, None}

module _ (t u : List ℕ) (part statement : ℕ) (old new : List ℕ) (P : List Statement) (c : Condition) (r : Read t u old P c) where
  -- no such part or statement
  pub missing : (Exists P c part statement → ⊥) → new ≡ old → NoneTold t u part statement old new false
  missing none e = record { P = P; c = c; read = r; decides = ((λ x. clash x refl), λ h. absurd (none h.0)); silent = λ h. absurd (none h); kept = e }

  pub answers : Exists P c part statement → (truth : Bool) → (truth ≡ true) ↔ Sat P (part_at c part) (statement - 1) → (a : Witnessed) → Explained P c part (statement - 1) truth old new a
      → WitnessTold t u part statement old new a
  answers is truth d (Path m turn) e = record { P = P; c = c; read = r; exists = is; shown = e }
  answers is truth d (None b) (same, silent, kept) = record { P = P; c = c; read = r; decides = rw same ((λ x. (is, d.0 x)), λ h. d.1 h.1); silent = λ _. silent; kept = kept }
