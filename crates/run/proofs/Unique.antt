-- A call of `run` has one answer, and one list of values and of kept ones beside it. Assumes nothing.
use Rattle.std.specs.Prelude.{Result, Ok, Err}
use mathlib.Core.Path.{◌≡◌, refl, sym, ap, ap₂, ◌∙◌, subst}
use mathlib.Core.Logic.{inl, inr}
use mathlib.Core.List.{List}
use Prim.Native.Nat.{ℕ, ◌≤◌}
use native.Mathlib.Omega.{arith}
use lib.Dec.{eqb}
use Rattle.base.specs.Pick.{pick}
use Rattle.language.specs.declared.Statement.{Statement}
use Rattle.program.specs.Program.{Taken}
use Rattle.program.specs.Reading as program
use Rattle.program.specs.declared.Refusal.TheVariants.{Misspelled, LineCount, Placement, Target}
use Rattle.program.proofs.RoundTrip.{taken-unique}
use Rattle.program.proofs.Unique.{refused-unique, taken_refused}
use Rattle.pricing.specs.Prices.{in_force}
use Rattle.machine.specs.Answer.{Answers}
use Rattle.machine.specs.declared.Answer.{Answer}
use Rattle.machine.proofs.Unique.{answer-unique}
use Rattle.execution.specs.declared.Outcome.{Outcome}
use Rattle.run.specs.Run.{most_steps, number, RunRefused, RunFinished, RunAnswers}
use Rattle.run.specs.declared.Refusal.{Refusal}
use Rattle.run.specs.declared.Refusal.TheVariants.{Budget, Program}

-- a refusal is known by its number
abbrev of_number : ℕ → Refusal
of_number n = pick (eqb n 2) (Program Misspelled) (pick (eqb n 3) (Program LineCount) (pick (eqb n 4) (Program Placement) (pick (eqb n 5) (Program Target) Budget)))

of-number : (r : Refusal) → of_number (number r) ≡ r
of-number Budget = refl
of-number (Program Misspelled) = refl
of-number (Program LineCount) = refl
of-number (Program Placement) = refl
of-number (Program Target) = refl

same-number : (r s : Refusal) → number r ≡ number s → r ≡ s
same-number r s e = sym (of-number r) ∙ ap of_number e ∙ of-number s

same-outcome : (a b : Outcome) → a.answer ≡ b.answer → a.values ≡ b.values → a.kept ≡ b.kept → a ≡ b
same-outcome a b d e f =
    ap (λ (x : Answer). record { answer = x; values = a.values; kept = a.kept }) d
    ∙ ap₂ (λ (us hs : List ℕ). record { answer = b.answer; values = us; kept = hs }) e f

module _ (t : List ℕ) (budget : ℕ) where
  -- a call that is refused has one number
  pub number-unique : {n m : ℕ} → RunRefused t budget n → RunRefused t budget m → n ≡ m
  number-unique (inl a) (inl b) = a.1 ∙ sym b.1
  number-unique (inl a) (inr b) = absurd (omega (arith, a.0, b.0))
  number-unique (inr a) (inl b) = absurd (omega (arith, a.0, b.0))
  number-unique (inr a) (inr b) = a.3 ∙ ap program.number (refused-unique t a.1 b.1 a.2 b.2) ∙ sym b.3

  -- one with an allowed budget and a text that is taken isn't refused
  pub never-refused : {n : ℕ} {P : List Statement} → RunRefused t budget n → budget ≤ most_steps → Taken t P → ⊥
  never-refused (inl r) allowed taken = omega (arith, r.0)
  never-refused (inr r) allowed taken = taken_refused t taken r.1 r.2

module _ (ps t vs : List ℕ) (input budget : ℕ) where
  run-finished :
      (a b : Answer) (ws us ks hs : List ℕ)
      → RunFinished ps t vs input budget a ws ks → RunFinished ps t vs input budget b us hs → (a ≡ b) × (ws ≡ us) × (ks ≡ hs)
  run-finished a b ws us ks hs f g =
      answer-unique f.P vs input (in_force ps) budget a b ws us ks hs f.answers
      (subst (λ (Q : List Statement). Answers (in_force ps) Q vs input budget b us hs) (taken-unique g.taken f.taken) g.answers)

  -- a call of `run` has one answer, and one list of values and of kept ones beside it
  pub run-unique : (a b : Result Outcome Refusal) → RunAnswers ps t vs input budget a → RunAnswers ps t vs input budget b → a ≡ b
  run-unique (Err r) (Err s) p q = ap (λ (x : Refusal). Err x) (same-number r s (number-unique t budget p q))
  run-unique (Err r) (Ok b) p q = absurd (never-refused t budget p q.allowed q.taken)
  run-unique (Ok a) (Err r) p q = absurd (never-refused t budget q p.allowed p.taken)
  run-unique (Ok a) (Ok b) p q = let e = run-finished a.answer b.answer a.values b.values a.kept b.kept p q in ap (λ (o : Outcome). Ok o) (same-outcome a b e.0 e.1 e.2)
