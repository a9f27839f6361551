-- What `run` leaves in the places that a host lends for its answer, and the number that the host gets.
use Rattle.std.specs.Prelude.{◌≡◌, List, ℕ, ℤ, Result, Ok, Err}
use Rattle.machine.specs.declared.Answer.{Answer}
use Rattle.machine.specs.declared.Answer.TheVariants.{Ended, Fault, Spent}
use Rattle.execution.specs.declared.Outcome.{Outcome}
use Rattle.run.specs.Run.{number, RunAnswers}
use Rattle.run.specs.declared.Refusal.{Refusal}

-- the places that a host lends for the answer
pub record RunPlaces : Type 0 where
  pub ended : ℕ
  pub value : ℤ
  pub steps : ℕ
  pub statement : ℕ
  pub left : List ℕ
  pub kept : List ℕ
  pub ticks : ℕ

-- what a run's answer sets, with the values ws and the kept ones ks beside it; the rest stays
abbrev pub placed : Answer → List ℕ → List ℕ → RunPlaces → RunPlaces
placed (Ended v k t) ws ks o = record { ended = 1; value = v; steps = k; statement = o.statement; left = o.left; kept = ks; ticks = t }
placed (Fault n k t) ws ks o = record { ended = 2; value = o.value; steps = k; statement = n; left = o.left; kept = o.kept; ticks = t }
placed (Spent n t) ws ks o = record { ended = 0; value = o.value; steps = o.steps; statement = n; left = ws; kept = o.kept; ticks = t }

-- 0 is a result, any other number the refusal, which keeps all
abbrev pub RunReturned : Result Outcome Refusal → ℕ → RunPlaces → RunPlaces → Type 0
RunReturned (Err f) r o q = (r ≡ number f) × (q ≡ o)
RunReturned (Ok a) r o q = (r ≡ 0) × (q ≡ placed a.answer a.values a.kept o)

-- the number and the places are those of the one answer of `run` under the table ps
pub record RunExported (ps t vs : List ℕ) (input budget r : ℕ) (o q : RunPlaces) : Type 0 where
  pub answer : Result Outcome Refusal
  pub answers : RunAnswers ps t vs input budget answer
  pub returned : RunReturned answer r o q
