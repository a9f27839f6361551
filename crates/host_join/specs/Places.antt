-- What `join` leaves in the places that a host lends for its answer, and the number that the host gets.
use Rattle.std.specs.Prelude.{◌≡◌, List, ℕ, Result, Ok, Err}
use Rattle.calls.specs.Refusals.{number_of}
use Rattle.calls.specs.declared.Refusal as calls
use Rattle.join.specs.Join.{number, JoinAnswers}
use Rattle.join.specs.declared.Joined.{Joined}
use Rattle.join.specs.declared.Refusal.{Refusal}

-- the places that a host lends for the answer beside the new text
pub record JoinPlaces : Type 0 where
  pub statements : ℕ
  pub bytes : ℕ

-- 0 is a result, which sets both; any other number is the refusal, which keeps both
abbrev pub JoinReturned : Result Joined (calls.Refusal Refusal) → ℕ → JoinPlaces → JoinPlaces → Type 0
JoinReturned (Err f) r o q = (r ≡ number_of number f) × (q ≡ o)
JoinReturned (Ok j) r o q = (r ≡ 0) × (q ≡ record { statements = j.statements; bytes = j.bytes })

-- the number and the places are those of the one answer of `join`, which also says what the new text holds
pub record JoinExported (t u old new : List ℕ) (r : ℕ) (o q : JoinPlaces) : Type 0 where
  pub answer : Result Joined (calls.Refusal Refusal)
  pub answers : JoinAnswers t u old new answer
  pub returned : JoinReturned answer r o q
