-- What `report` leaves in the places that a host lends for its answer, and the number that the host gets.
use Rattle.std.specs.Prelude.{◌≡◌, List, ℕ, ℤ, take, Result, Ok, Err}
use Rattle.std.proofs.lemmas.List.Edits.{sets}
use Rattle.price_list.specs.declared.PriceList.{PriceList}
use Rattle.priced.specs.Priced.{ReportAnswers}
use Rattle.marks.specs.Reading as marks
use Rattle.marks.specs.declared.Refusal as marks-refusal
use Rattle.calls.specs.Refusals.{number_of}
use Rattle.calls.specs.declared.Refusal.{Refusal}

-- the places that a host lends for the answer
pub record ReportPlaces : Type 0 where
  pub before : List ℕ
  pub after : List ℕ
  pub statements : ℕ
  pub given : ℕ
  pub rewritten : ℕ
  pub saved : ℤ

-- ys with the first n of xs at its front
abbrev pub begun : ℕ → List ℕ → List ℕ → List ℕ
begun n xs ys = sets ys 0 (take n xs)

-- a price for each statement, and the totals; entries past the statements are kept
abbrev pub placed : PriceList → ReportPlaces → ReportPlaces
placed l o = record {
  before = begun l.count l.before o.before;
  after = begun l.count l.after o.after;
  statements = l.count;
  given = l.given;
  rewritten = l.rewritten;
  saved = l.saved;
}

-- 0 is a result, any other number the refusal, which keeps all
abbrev pub ReportReturned : Result PriceList (Refusal marks-refusal.Refusal) → ℕ → ReportPlaces → ReportPlaces → Type 0
ReportReturned (Err f) r o q = (r ≡ number_of marks.number f) × (q ≡ o)
ReportReturned (Ok l) r o q = (r ≡ 0) × (q ≡ placed l o)

-- the number and the places are those of the one answer of `report` under the table ps
pub record ReportExported (ps t u : List ℕ) (r : ℕ) (o q : ReportPlaces) : Type 0 where
  pub answer : Result PriceList (Refusal marks-refusal.Refusal)
  pub answers : ReportAnswers ps t u answer
  pub returned : ReportReturned answer r o q
