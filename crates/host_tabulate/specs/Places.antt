-- What `tabulate` leaves in the places that a host lends for its answer, and the number that the host gets.
use Rattle.std.specs.Prelude.{◌≡◌, List, ℕ, Result, Ok, Err}
use Rattle.condition_reader.specs.Reading as condition-reading
use Rattle.condition_reader.specs.declared.Refusal as condition-refusal
use Rattle.calls.specs.Refusals.{number_of}
use Rattle.calls.specs.declared.Refusal.{Refusal}
use Rattle.tabulate.specs.Tabulate.{TabulateAnswers}
use Rattle.tabulate.specs.declared.Filled.{Filled}

-- the places that a host lends for the answer beside the table
pub record TabulatePlaces : Type 0 where
  pub parts : ℕ
  pub satisfied : ℕ
  pub first : ℕ

-- 0 is a result, which sets all three; any other number is the refusal, which keeps all three
abbrev pub TabulateReturned : Result Filled (Refusal condition-refusal.Refusal) → ℕ → TabulatePlaces → TabulatePlaces → Type 0
TabulateReturned (Err e) r o q = (r ≡ number_of condition-reading.number e) × (q ≡ o)
TabulateReturned (Ok f) r o q = (r ≡ 0) × (q ≡ record { parts = f.parts; satisfied = f.satisfied; first = f.first })

-- the number and the places are those of the one answer of `tabulate`, which also says what the table holds
pub record TabulateExported (t u old new : List ℕ) (r : ℕ) (o q : TabulatePlaces) : Type 0 where
  pub answer : Result Filled (Refusal condition-refusal.Refusal)
  pub answers : TabulateAnswers t u old new answer
  pub returned : TabulateReturned answer r o q
