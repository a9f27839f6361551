-- Proof devices: what the functions that search the path of a refused mark are asked and establish. No sentence of the documents stands here.
use Rattle.std.specs.Prelude.{◌≡◌, Bool, true, false, List, ℕ, ◌≤◌, ◌<◌, length}
use Rattle.language.specs.declared.Expression.{Expression}
use Rattle.language.specs.declared.Statement.{Statement}
use Rattle.program.specs.Program.{most}
use Rattle.bits.specs.Row.{member}
use Rattle.labelling.specs.Labels.{Labelled}
use Rattle.truth.specs.Truth.{uses_of, SatBy}
use Rattle.atoms.specs.Facts.{used_in, FactsIn, Sized}
use Rattle.table.specs.Known.{KnownBy}
use Rattle.marks.specs.Marks.{ValidMark}
use Rattle.marks.specs.declared.Mark.{Mark}
use Rattle.marks.specs.declared.Mark.TheVariants.{Rm, Rpl, Cse}
use Rattle.lockstep.specs.Rules.{published}
use Rattle.rewriting.specs.Verdicts.{place, Widened}
use Rattle.refused_marks.specs.RefusedMarks.{Passes}
use Rattle.refused_marks.specs.Ends.{Source, Spoilt, Ends}

-- the variable that a mark drops, replaces or uses again
abbrev pub variable_of : Mark → ℕ
variable_of (Rm n x e) = x
variable_of (Rpl n x a) = x
variable_of (Cse n x e) = x

abbrev pub goes_back : Mark → Bool
goes_back (Rm n x e) = false
goes_back (Rpl n x a) = true
goes_back (Cse n x e) = true

-- P has n statements, and these are its facts by the uses that the rows have
pub record FactsAt (P : List Statement) (n : ℕ) (rows : List ℕ) (codes : List (List ℕ)) : Type 0 where
  pub size : length P ≡ n
  pub facts : FactsIn P (length P) rows codes

-- the facts' numbers are those of n statements
pub record Room (n : ℕ) (rows : List ℕ) (codes : List (List ℕ)) : Type 0 where
  pub few : n ≤ most
  pub sized : Sized rows codes

-- the row has the places below n of which X is true
abbrev pub Rowed : ℕ → List ℕ → (ℕ → Type 0) → Type 0
Rowed n row X = Labelled n (member row) X

-- the rows of a search: where it may pass, and where it may end
pub record Spoiling (again : Bool) (P : List Statement) (x : ℕ) (e : Expression) (n : ℕ) (through goal : List ℕ) : Type 0 where
  pub passes : Rowed n through (λ t. ¬ Source again P x e t)
  pub ends : Rowed n goal (Spoilt again P x e)

pub record Searches (P : List Statement) (m : Mark) (n : ℕ) (rows through goal : List ℕ) : Type 0 where
  pub passes : Rowed n through (Passes P m)
  pub ends : Rowed n goal (Ends (used_in rows) P m)

-- the mark's condition is false at its statement, by the uses with those that the list ms adds; `own` are the places at which P itself uses its
-- variable
pub record Refused (P : List Statement) (ms : List Mark) (m : Mark) (n : ℕ) (rows : List ℕ) (codes : List (List ℕ)) (flow own : List ℕ) : Type 0 where
  pub known : KnownBy (Widened P ms) P n rows codes flow
  pub valid : ValidMark m
  pub inside : place m < n
  pub unmet : SatBy (Widened P ms) P (published m) (place m) → ⊥
  pub uses : Rowed n own (uses_of P (variable_of m))

pub record SomeRefused (m : Mark) (n : ℕ) (rows : List ℕ) (codes : List (List ℕ)) (flow own : List ℕ) (s : ℕ) : Type 0 where
  pub P : List Statement
  pub ms : List Mark
  pub refused : Refused P ms m n rows codes flow own
  pub here : s ≡ place m
