-- What `review` leaves in the places that a host lends for its answer, and the number that the host gets.
use Rattle.std.specs.Prelude.{◌≡◌, List, ℕ, take, Result, Ok, Err}
use Rattle.std.proofs.lemmas.List.Edits.{sets}
use Rattle.calls.specs.Refusals.{number_of}
use Rattle.calls.specs.declared.Refusal.{Refusal}
use Rattle.review_reader.specs.Reading as reading
use Rattle.review_reader.specs.declared.Refusal as reading-refusal
use Rattle.review.specs.Review.{Told, told_of, ReviewAnswers}
use Rattle.review.specs.declared.Reviewed.{Reviewed}

-- the places that a host lends for the answer beside the table
pub record ReviewPlaces : Type 0 where
  pub tables : ℕ
  pub lines : ℕ
  pub told : Told

-- ys with the first n of xs at its front
abbrev pub begun : ℕ → List ℕ → List ℕ → List ℕ
begun n xs ys = sets ys 0 (take n xs)

-- an entry for each of the n lines; the rest is kept
abbrev pub told : ℕ → Told → Told → Told
told n a o = record {
  tables = begun n a.tables o.tables;
  parts = begun n a.parts o.parts;
  satisfied = begun n a.satisfied o.satisfied;
  first = begun n a.first o.first;
}

-- 0 is a result, which sets both numbers and the entries of the lines; any other number is the refusal, which keeps all
abbrev pub ReviewReturned : Result Reviewed (Refusal reading-refusal.Refusal) → ℕ → ReviewPlaces → ReviewPlaces → Type 0
ReviewReturned (Err refusal) r o q = (r ≡ number_of reading.number refusal) × (q ≡ o)
ReviewReturned (Ok a) r o q = (r ≡ 0) × (q ≡ record { tables = a.tables; lines = a.lines; told = told a.lines (told_of a) o.told })

-- the number and the places are those of the one answer of `review`, which also says what the table holds
pub record ReviewExported (t u old new : List ℕ) (r : ℕ) (o q : ReviewPlaces) : Type 0 where
  pub answer : Result Reviewed (Refusal reading-refusal.Refusal)
  pub answers : ReviewAnswers t u old new answer
  pub returned : ReviewReturned answer r o q
