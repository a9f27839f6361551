-- What reading a table of prices leaves in the eleven places that a host lends, and the number that the host gets.
use Rattle.std.specs.Prelude.{◌≡◌, List, ℕ, Result, Ok, Err}
use Rattle.prices.specs.Prices.{number, PricesAnswers}
use Rattle.prices.specs.declared.Refusal.{Refusal}

-- 0 is a result, which sets all eleven, any other number the refusal, which keeps them
abbrev pub PricesReturned : Result (List ℕ) Refusal → ℕ → List ℕ → List ℕ → Type 0
PricesReturned (Ok ps) r o q = (r ≡ 0) × (q ≡ ps)
PricesReturned (Err e) r o q = (r ≡ number e) × (q ≡ o)

-- the number and the places are those of the one answer for the text t
pub record PricesExported (t : List ℕ) (r : ℕ) (o q : List ℕ) : Type 0 where
  pub answer : Result (List ℕ) Refusal
  pub answers : PricesAnswers t answer
  pub returned : PricesReturned answer r o q
