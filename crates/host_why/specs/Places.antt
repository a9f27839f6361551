-- What `why` leaves in the places that a host lends for its answer, and the number that the host gets.
use Rattle.std.specs.Prelude.{◌≡◌, List, ℕ, Result, Ok, Err}
use Rattle.why.specs.Why.{WhyAnswers}
use Rattle.why.specs.declared.Because.{Because}
use Rattle.calls.specs.Refusals.{number_of}
use Rattle.calls.specs.declared.Refusal.{Refusal}
use Rattle.marks.specs.Reading as marks
use Rattle.marks.specs.declared.Refusal as marks-refusal

-- the places that a host lends for the answer beside the path
pub record WhyPlaces : Type 0 where
  pub verdict : ℕ
  pub length : ℕ
  pub culprit : ℕ

-- 0 is a result: the verdict byte, the path's length and its culprit, both 0 where there is no path. Any other number is the refusal, which keeps
-- all three
abbrev pub WhyReturned : Result Because (Refusal marks-refusal.Refusal) → ℕ → WhyPlaces → WhyPlaces → Type 0
WhyReturned (Err refusal) r o q = (r ≡ number_of marks.number refusal) × (q ≡ o)
WhyReturned (Ok because) r o q = (r ≡ 0) × (q ≡ record { verdict = because.verdict; length = because.length; culprit = because.culprit })

-- the number and the places are those of an answer of `why`, which also says what the path holds
pub record WhyExported (t u : List ℕ) (line : ℕ) (old new : List ℕ) (r : ℕ) (o q : WhyPlaces) : Type 0 where
  pub answer : Result Because (Refusal marks-refusal.Refusal)
  pub answers : WhyAnswers t u line old new answer
  pub returned : WhyReturned answer r o q
