-- A proof device: where a path that shows why a mark is refused may end, whatever its culprit. No sentence of the documents stands here;
-- proofs/ holds it to the culprits and to the published conditions.
use Rattle.std.specs.Prelude.{◌≡◌, Bool, true, false, List, ℕ}
use Rattle.language.specs.declared.Expression.{Expression}
use Rattle.language.specs.declared.Expression.TheVariants.{Single}
use Rattle.language.specs.declared.Statement.{Statement}
use Rattle.language.specs.declared.Statement.TheVariants.{Assign}
use Rattle.program.specs.Program.{at}
use Rattle.truth.specs.Truth.{Defines}
use Rattle.lassos.specs.Lassos.{Neither}
use Rattle.marks.specs.declared.Mark.{Mark}
use Rattle.marks.specs.declared.Mark.TheVariants.{Rm, Rpl, Cse}
use Rattle.refused_marks.specs.RefusedMarks.{Spoils}

-- place t copies the expression to x; a sum that is to be used again also keeps its own variables
abbrev pub Source : Bool → List Statement → ℕ → Expression → ℕ → Type 0
Source false P x e t = at P t ≡ Assign x e
Source true P x e t = (at P t ≡ Assign x e) × (¬ Spoils (at P t) e)

-- place t does nothing to x or the expression, and a run doesn't start there
abbrev pub Untouched : List Statement → ℕ → Expression → ℕ → Type 0
Untouched P x e t = (¬ Defines (at P t) x) × (¬ Spoils (at P t) e) × (¬ (t ≡ 0))

abbrev pub Spoilt : Bool → List Statement → ℕ → Expression → ℕ → Type 0
Spoilt again P x e = Neither (Untouched P x e) (Source again P x e)

abbrev pub Ends : (ℕ → ℕ → Type 0) → List Statement → Mark → ℕ → Type 0
Ends U P (Rm n x e) = U x
Ends U P (Rpl n x a) = Spoilt false P x (Single a)
Ends U P (Cse n x e) = Spoilt true P x e
