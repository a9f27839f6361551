-- What `go_back` leaves in the place that a host lends for its answer, and the number that the host gets.
use Rattle.std.specs.Prelude.{◌≡◌, List, ℕ, Result, Ok, Err}
use Rattle.go_back.specs.Return.{number, ReturnAnswers}
use Rattle.go_back.specs.declared.Refusal.{Refusal}

-- 0 is a result, which sets the bytes; any other number is the refusal, which keeps them
abbrev pub GaveBack : Result ℕ Refusal → ℕ → ℕ → ℕ → Type 0
GaveBack (Ok b) r o q = (r ≡ 0) × (q ≡ b)
GaveBack (Err s) r o q = (r ≡ number s) × (q ≡ o)

-- the number and the bytes are those of the one answer of `go_back`, which also says what the text holds
pub record ReturnExported (mem n old new : List ℕ) (r : ℕ) (o q : ℕ) : Type 0 where
  pub answer : Result ℕ Refusal
  pub answers : ReturnAnswers mem n old new answer
  pub returned : GaveBack answer r o q
