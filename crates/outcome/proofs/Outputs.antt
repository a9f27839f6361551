-- From what `start::read`, `run` and `line_of_number` answer to what is printed. Assumes nothing.
use Rattle.std.specs.Prelude.{Result, Ok, Err}
use mathlib.Core.Path.{◌≡◌, refl}
use mathlib.Core.Logic.{inl, inr}
use mathlib.Core.List.{List}
use Prim.Native.Nat.{ℕ, ◌≤◌}
use native.Mathlib.Omega.{arith}
use lib.ListN.{length}
use Rattle.statement_writer.specs.Writing.{Put}
use Rattle.statement_writer.proofs.Puts.{put-within}
use Rattle.blame.specs.Blame.{Blamed}
use Rattle.pricing.specs.Prices.{ours}
use Rattle.execution.specs.declared.Outcome as execution
use Rattle.run.specs.Run.{RunRefused, RunFinished}
use Rattle.desk.specs.Refusals.{refusal_text}
use Rattle.desk.specs.declared.Failure.{Failure}
use Rattle.desk.specs.declared.Failure.TheVariants.{Refused, NoRoom}
use Rattle.start.specs.Start.{StartTaken, StartWrong}
use Rattle.start.specs.declared.Wrong.{Wrong}
use Rattle.start_refusal.specs.StartRefusal.{start_text}
use Rattle.outcome.specs.Outcome.{answer_text, Printed, Prints, RunPrints}

-- an answer that is told
module _ {t : List ℕ} (vs : List ℕ) (input : ℕ) {budget : ℕ} {o q : List ℕ} {n : ℕ} where
  pub refusal-printed : (k line : ℕ) → RunRefused t budget k → Blamed t k line
      → length (refusal_text k line) ≤ length o → Put o 0 (refusal_text k line) q n → RunPrints t vs input budget o q (Err (Refused n))
  refusal-printed k line refused about fits put =
      record { w = refusal_text k line; told = record { n = k; line = line; refused = refused; blamed = about; tells = refl }; fits = fits; put = put }

  pub answer-printed : (a : execution.Outcome) → RunFinished ours t vs input budget a.answer a.values a.kept
      → Put o 0 (answer_text a.answer a.values a.kept) q n → n ≤ length o → RunPrints t vs input budget o q (Ok n)
  answer-printed a finished put fits =
      record {
        w = answer_text a.answer a.values a.kept;
        told = record { answer = a.answer; left = a.values; kept = a.kept; finished = finished; tells = refl };
        fits = omega (arith, put.after);
        put = put;
      }

module _ (t u o q : List ℕ) where
  pub run-output : {input budget : ℕ} {vs : List ℕ} → StartTaken u input budget vs → (r : Result ℕ Failure) → RunPrints t vs input budget o q r → Prints t u o q r
  run-output {input} {budget} {vs} taken (Ok n) p =
      record { w = p.w; told = record { input = input; budget = budget; values = vs; start = taken; run = p.told }; fits = p.fits; put = p.put }
  run-output {input} {budget} {vs} taken (Err (Refused n)) p = record { w = p.w; told = inr (input, budget, vs, taken, p.told); fits = p.fits; put = p.put }
  run-output taken (Err NoRoom) p = absurd p

  pub start-output : {n : ℕ} (r : Wrong) → StartWrong u r → Put o 0 (start_text r) q n → n ≤ length o → Prints t u o q (Err (Refused n))
  start-output r wrong put fits =
      record { w = start_text r; told = inl (record { wrong = r; read = wrong; tells = refl }); fits = omega (arith, put.after); put = put }

-- an output's end lies within the lent bytes
pub printed-within : {Claim : List ℕ → Type 0} {o q : List ℕ} {n : ℕ} → Printed Claim o q n → n ≤ length q
printed-within p = put-within p.put p.fits
