-- What `keep` leaves in the place that a host lends for its answer, and the number that the host gets.
use Rattle.std.specs.Prelude.{◌≡◌, List, ℕ, Result, Ok, Err}
use Rattle.calls.specs.Refusals.{number_of}
use Rattle.calls.specs.declared.Refusal as call
use Rattle.keep.specs.Keep.{number, KeepAnswers}
use Rattle.keep.specs.declared.Refusal.{Refusal}

-- 0 is a result, which sets the place told; any other number is the refusal, which keeps it
abbrev pub KeepReturned : Result ℕ (call.Refusal Refusal) → ℕ → ℕ → ℕ → Type 0
KeepReturned (Ok k) r o q = (r ≡ 0) × (q ≡ k)
KeepReturned (Err s) r o q = (r ≡ number_of number s) × (q ≡ o)

-- the number and the place told are those of the one answer of `keep`, which also says what the stages hold
pub record KeepExported (old n t new : List ℕ) (r : ℕ) (o q : ℕ) : Type 0 where
  pub answer : Result ℕ (call.Refusal Refusal)
  pub answers : KeepAnswers old n t new answer
  pub returned : KeepReturned answer r o q
