-- What a host gets from `list` and `relist`: a number, and what is left in the places that it lends, after each outcome.
use Rattle.std.specs.Prelude.{◌≡◌, List, ℕ, Result, Ok, Err}
use Rattle.listing.specs.declared.Ones.{Ones}
use Rattle.list.specs.List.{number, ListAnswers}
use Rattle.list.specs.declared.Refusal as list-refusal
use Rattle.marks.specs.Reading as marks
use Rattle.marks.specs.declared.Refusal as marks-refusal
use Rattle.calls.specs.Refusals.{number_of}
use Rattle.calls.specs.declared.Refusal as call-refusal
use Rattle.relist.specs.Relist.{RelistAnswers}

-- the places lent beside the list: the ones of the sets that define each variable, and of those that use it
pub record ListPlaces : Type 0 where
  pub defined : List ℕ
  pub used : List ℕ

-- 0 is a result, which sets all entries of both to the counts; any other number is the refusal's, which keeps all
abbrev pub ListReturned : {R : Type 0} → (R → ℕ) → Result Ones R → ℕ → ListPlaces → ListPlaces → Type 0
ListReturned number (Err e) r o q = (r ≡ number e) × (q ≡ o)
ListReturned number (Ok c) r o q = (r ≡ 0) × (q.defined ≡ c.defined) × (q.used ≡ c.used)

-- the number and the places are those of the one answer of `list`, which also says what the list holds
pub record ListExported (t old new : List ℕ) (r : ℕ) (o q : ListPlaces) : Type 0 where
  pub answer : Result Ones list-refusal.Refusal
  pub answers : ListAnswers t old new answer
  pub returned : ListReturned number answer r o q

-- the same of `relist`
pub record RelistExported (t u old new : List ℕ) (r : ℕ) (o q : ListPlaces) : Type 0 where
  pub answer : Result Ones (call-refusal.Refusal marks-refusal.Refusal)
  pub answers : RelistAnswers t u old new answer
  pub returned : ListReturned (number_of marks.number) answer r o q
