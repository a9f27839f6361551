-- What `judge` leaves in the places that a host lends for its answer, and the number that the host gets.
use Rattle.std.specs.Prelude.{◌≡◌, List, ℕ, Result, Ok, Err}
use Rattle.judge.specs.Judge.{Lent, JudgeAnswers}
use Rattle.judge.specs.declared.Judged.{Judged}
use Rattle.marks.specs.Reading as marks
use Rattle.marks.specs.declared.Refusal as marks-refusal
use Rattle.calls.specs.Refusals.{number_of}
use Rattle.calls.specs.declared.Refusal.{Refusal}

-- the places that a host lends for the answer beside the verdict bytes and the new text
pub record JudgePlaces : Type 0 where
  pub marks : ℕ
  pub accepted : ℕ
  pub bytes : ℕ

-- 0 is a result, which sets all three; any other number is the refusal, which keeps all three
abbrev pub JudgeReturned : Result Judged (Refusal marks-refusal.Refusal) → ℕ → JudgePlaces → JudgePlaces → Type 0
JudgeReturned (Err f) r o q = (r ≡ number_of marks.number f) × (q ≡ o)
JudgeReturned (Ok j) r o q = (r ≡ 0) × (q ≡ record { marks = j.marks; accepted = j.accepted; bytes = j.bytes })

-- the number and the places are those of the one answer of `judge`, which also says what the verdict bytes and the new text hold
pub record JudgeExported (t u : List ℕ) (old new : Lent) (r : ℕ) (o q : JudgePlaces) : Type 0 where
  pub answer : Result Judged (Refusal marks-refusal.Refusal)
  pub answers : JudgeAnswers t u old new answer
  pub returned : JudgeReturned answer r o q
