-- What `rewrites_force` returns, and what it leaves in the places lent for answers.
use Rattle.std.specs.Prelude.{◌≡◌, List, ℕ, Result, Ok, Err}
use Rattle.calls.specs.Refusals.{number_of}
use Rattle.calls.specs.declared.Refusal.{Refusal}
use Rattle.tabulate.specs.declared.Filled.{Filled}
use Rattle.force.specs.Force.{number, Beside, ForceAnswers}
use Rattle.force.specs.declared.TextRefusal.{TextRefusal}

-- the counts lent to `rewrites_force` beside the table, the numbers and the arms
pub record ForcePlaces : Type 0 where
  pub parts : ℕ
  pub satisfied : ℕ
  pub first : ℕ

-- 0 is a result, which sets all three; any other number is the refusal, which keeps all three
abbrev pub ForceReturned : Result Filled (Refusal TextRefusal) → ℕ → ForcePlaces → ForcePlaces → Type 0
ForceReturned (Err e) r o q = (r ≡ number_of number e) × (q ≡ o)
ForceReturned (Ok f) r o q = (r ≡ 0) × (q ≡ record { parts = f.parts; satisfied = f.satisfied; first = f.first })

-- the number and the places are those of the one answer of `force`, which also says what the table, the numbers and the arms hold
pub record ForceExported (t d u old new : List ℕ) (r : ℕ) (before after : Beside) (o q : ForcePlaces) : Type 0 where
  pub answer : Result Filled (Refusal TextRefusal)
  pub answers : ForceAnswers t d u old new answer before after
  pub returned : ForceReturned answer r o q
