-- The run that the texts ask for is one only, and so is what is printed of it. Assumes nothing.
use mathlib.Core.Path.{◌≡◌, ap, ap₂, sym, ◌∙◌}
use mathlib.Core.Logic.{inl, inr}
use mathlib.Core.List.{List}
use Prim.Native.Nat.{ℕ}
use native.Mathlib.Omega.{arith}
use Rattle.language.specs.declared.Statement.{Statement}
use Rattle.program.specs.Reading.{number}
use Rattle.program.specs.declared.Refusal as program
use Rattle.program.specs.declared.Refusal.TheVariants.{Misspelled, LineCount, Placement, Target}
use Rattle.program.proofs.RoundTrip.{taken-unique}
use Rattle.pricing.specs.Prices.{ours, in_force}
use Rattle.machine.specs.Answer.{Answers}
use Rattle.machine.proofs.Unique as machine
use Rattle.blame.specs.Blame.{Blamed}
use Rattle.blame.proofs.Unique.{blames-unique}
use Rattle.run.specs.Run.{budget_number, RunRefused}
use Rattle.run.proofs.Unique.{number-unique, never-refused}
use Rattle.desk.specs.Refusals.{refusal_text}
use Rattle.start.proofs.Unique.{wrong-unique, taken_wrong, start-unique}
use Rattle.start_refusal.specs.StartRefusal.{start_text}
use Rattle.outcome.specs.Outcome.{answer_text, RunResult, RunRefusal, Runs, Result, Refusal, Output}

module _ {t u : List ℕ} {P : List Statement} {vs : List ℕ} {input budget : ℕ} (a : Runs t u P vs input budget) where
  pub runs-unique : {Q : List Statement} {ws : List ℕ} {j n : ℕ} → Runs t u Q ws j n → (P ≡ Q) × (vs ≡ ws) × (input ≡ j) × (budget ≡ n)
  runs-unique b = let s = start-unique a.start b.start in (taken-unique a.taken b.taken, s.2, s.0, s.1)

  -- it isn't refused
  pub runs-refused : {w : List ℕ} → Refusal t u w → ⊥
  runs-refused (inl x) = taken_wrong a.start x.wrong x.read
  runs-refused (inr x) =
      let same = (start-unique x.3 a.start).1 in
      never-refused t budget (rw same at x.4.refused) a.allowed a.taken

-- a result is of this run
pub result-runs : {t u w : List ℕ} (r : Result t u w) → Runs t u r.run.finished.P r.values r.input r.budget
result-runs r = record { start = r.start; allowed = r.run.finished.allowed; taken = r.run.finished.taken }

result-run : {t vs : List ℕ} {input budget : ℕ} {w x : List ℕ} → RunResult t vs input budget w → RunResult t vs input budget x → w ≡ x
result-run {vs = vs} {input = input} {budget = budget} a b =
    let p = taken-unique b.finished.taken a.finished.taken in
    let other : Answers (in_force ours) a.finished.P vs input budget b.answer b.left b.kept = rw (← p) b.finished.answers in
    let u = machine.answer-unique a.finished.P vs input (in_force ours) budget a.answer b.answer a.left b.left a.kept b.kept a.finished.answers other in
    a.tells ∙ rw (u.0, u.1, u.2) (sym b.tells)

pub result-unique : {t u w x : List ℕ} → Result t u w → Result t u x → w ≡ x
result-unique {t = t} {x = x} a b =
    let s = start-unique b.start a.start in
    let other : RunResult t a.values a.input a.budget x = rw (← s.0, ← s.1, ← s.2) b.run in
    result-run a.run other

-- the line of a run's refusal
none-numbered : (r : program.Refusal) → budget_number ≡ number r → ⊥
none-numbered Misspelled e = omega (arith, e)
none-numbered LineCount e = omega (arith, e)
none-numbered Placement e = omega (arith, e)
none-numbered Target e = omega (arith, e)

line-unique : (t : List ℕ) (budget : ℕ) {n l m : ℕ} → RunRefused t budget n → Blamed t n l → Blamed t n m → l ≡ m
line-unique t budget (inl a) x y =
    let none : (r : program.Refusal) → _ ≡ number r → ⊥ = λ r e. none-numbered r (sym a.1 ∙ e) in
    x.other none ∙ sym (y.other none)
line-unique t budget (inr a) x y = blames-unique t a.1 (x.about a.1 a.3 a.2) (y.about a.1 a.3 a.2)

refusal-run : (t : List ℕ) (budget : ℕ) {w x : List ℕ} → RunRefusal t budget w → RunRefusal t budget x → w ≡ x
refusal-run t budget a b =
    let n = number-unique t budget a.refused b.refused in
    let l = line-unique t budget b.refused (rw n at a.blamed) b.blamed in
    a.tells ∙ ap₂ refusal_text n l ∙ sym b.tells

pub refusal-unique : (t u : List ℕ) {w x : List ℕ} → Refusal t u w → Refusal t u x → w ≡ x
refusal-unique t u (inl a) (inl b) = a.tells ∙ ap start_text (wrong-unique u a.wrong b.wrong a.read b.read) ∙ sym b.tells
refusal-unique t u (inl a) (inr b) = absurd (taken_wrong b.3 a.wrong a.read)
refusal-unique t u (inr a) (inl b) = absurd (taken_wrong a.3 b.wrong b.read)
refusal-unique t u (inr a) (inr b) = refusal-run t b.1 (rw (start-unique a.3 b.3).1 at a.4) b.4

pub output-unique : (t u : List ℕ) {w x : List ℕ} → Output t u w → Output t u x → w ≡ x
output-unique t u (inl a) (inl b) = result-unique a b
output-unique t u (inl a) (inr b) = absurd (runs-refused (result-runs a) b)
output-unique t u (inr a) (inl b) = absurd (runs-refused (result-runs b) a)
output-unique t u (inr a) (inr b) = refusal-unique t u a b
