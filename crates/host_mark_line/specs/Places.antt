-- What `mark_line` leaves in the places that a host lends for its answer, and the number that the host gets.
use Rattle.std.specs.Prelude.{◌≡◌, List, ℕ, Result, Ok, Err}
use Rattle.marks.specs.Reading.{number}
use Rattle.marks.specs.declared.Refusal.{Refusal}
use Rattle.mark_line.specs.MarkLine.{MarkLineAnswers}

-- the places that a host lends for the answer
pub record MarkLinePlaces : Type 0 where
  pub begin : ℕ
  pub end : ℕ

-- 0 is a result, which sets both; any other number is the refusal, which keeps both
abbrev pub MarkLineReturned : Result (ℕ × ℕ) Refusal → ℕ → MarkLinePlaces → MarkLinePlaces → Type 0
MarkLineReturned (Ok (b, e)) r o q = (r ≡ 0) × (q ≡ record { begin = b; end = e })
MarkLineReturned (Err s) r o q = (r ≡ number s) × (q ≡ o)

-- the number and the places are those of the one answer of `mark_line`
pub record MarkLineExported (u : List ℕ) (j r : ℕ) (o q : MarkLinePlaces) : Type 0 where
  pub answer : Result (ℕ × ℕ) Refusal
  pub answers : MarkLineAnswers u j answer
  pub returned : MarkLineReturned answer r o q
