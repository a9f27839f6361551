-- A call that is refused has one number, and is not finished too; where no number is that of two refusals, it has one refusal. Assumes nothing.
use mathlib.Core.Path.{◌≡◌, refl, sym, ap, ◌∙◌}
use mathlib.Core.Logic.{inl, inr}
use mathlib.Core.List.{List, [], ◌∷◌}
use Prim.Native.Nat.{ℕ, ◌≤◌, ◌<◌}
use native.Mathlib.Omega.{arith}
use lib.ListN.{get_or}
use Rattle.language.specs.declared.Statement.{Statement}
use Rattle.program.specs.Program.{Taken}
use Rattle.program.specs.Reading as program
use Rattle.program.proofs.Unique.{refused-unique, taken_refused}
use Rattle.program.specs.declared.Refusal as program-refusal
use Rattle.program.specs.declared.Refusal.TheVariants.{Misspelled, LineCount, Placement, Target}
use Rattle.calls.specs.Refusals.{number_of, CallRefused}
use Rattle.calls.specs.declared.Refusal.{Refusal}
use Rattle.calls.specs.declared.Refusal.TheVariants.{Room, Program, Text}

module _ {Short Enough : Type 0} (apart : Short → Enough → ⊥) (t : List ℕ) {R : Type 0} (Refused : R → Type 0) (number : R → ℕ) where
  abbrev Refuses : ℕ → Type 0
  Refuses = CallRefused Short Enough t Refused number

  pub refuses-unique : ((r s : R) → Refused r → Refused s → r ≡ s) → (n m : ℕ) → Refuses n → Refuses m → n ≡ m
  refuses-unique unique n m (inl a) (inl b) = a.1 ∙ sym b.1
  refuses-unique unique n m (inl a) (inr (inl b)) = absurd (apart a.0 b.0)
  refuses-unique unique n m (inl a) (inr (inr b)) = absurd (apart a.0 b.0)
  refuses-unique unique n m (inr (inl a)) (inl b) = absurd (apart b.0 a.0)
  refuses-unique unique n m (inr (inr a)) (inl b) = absurd (apart b.0 a.0)
  refuses-unique unique n m (inr (inl a)) (inr (inl b)) = a.3 ∙ ap program.number (refused-unique t a.1 b.1 a.2 b.2) ∙ sym b.3
  refuses-unique unique n m (inr (inl a)) (inr (inr b)) = absurd (taken_refused t b.2 a.1 a.2)
  refuses-unique unique n m (inr (inr a)) (inr (inl b)) = absurd (taken_refused t a.2 b.1 b.2)
  refuses-unique unique n m (inr (inr a)) (inr (inr b)) = a.5 ∙ ap number (unique a.3 b.3 a.4 b.4) ∙ sym b.5

  pub refuses-not : (n : ℕ) {P : List Statement} → Refuses n → Enough → Taken t P → ((r : R) → Refused r → ⊥) → ⊥
  refuses-not n (inl a) e p none = apart a.0 e
  refuses-not n (inr (inl a)) e p none = taken_refused t p a.1 a.2
  refuses-not n (inr (inr a)) e p none = none a.3 a.4

-- the refusal of a program with number n
abbrev named : ℕ → program-refusal.Refusal
named n = get_or (Misspelled ∷ Misspelled ∷ Misspelled ∷ LineCount ∷ Placement ∷ []) n Target

named-number : (r : program-refusal.Refusal) → named (program.number r) ≡ r
named-number Misspelled = refl
named-number LineCount = refl
named-number Placement = refl
named-number Target = refl

-- no number is that of two refusals of programs
pub same-program : (r s : program-refusal.Refusal) → program.number r ≡ program.number s → r ≡ s
same-program r s e = sym (named-number r) ∙ ap named e ∙ named-number s

-- they are 2 to 5
pub program-numbers : (r : program-refusal.Refusal) → (1 < program.number r) × (program.number r ≤ 5)
program-numbers Misspelled = (omega arith, omega arith)
program-numbers LineCount = (omega arith, omega arith)
program-numbers Placement = (omega arith, omega arith)
program-numbers Target = (omega arith, omega arith)

-- nor of two of a call, where that is so of its second text's, which are above them
module _ {R : Type 0} (number : R → ℕ) (own : (r s : R) → number r ≡ number s → r ≡ s) (above : (r : R) → 5 < number r) where
  pub same-refusal : (a b : Refusal R) → number_of number a ≡ number_of number b → a ≡ b
  same-refusal Room Room e = refl
  same-refusal Room (Program s) e = absurd (omega (arith, e, (program-numbers s).0))
  same-refusal Room (Text s) e = absurd (omega (arith, e, above s))
  same-refusal (Program r) Room e = absurd (omega (arith, e, (program-numbers r).0))
  same-refusal (Program r) (Program s) e = ap Program (same-program r s e)
  same-refusal (Program r) (Text s) e = absurd (omega (arith, e, (program-numbers r).1, above s))
  same-refusal (Text r) Room e = absurd (omega (arith, e, above r))
  same-refusal (Text r) (Program s) e = absurd (omega (arith, e, (program-numbers s).1, above r))
  same-refusal (Text r) (Text s) e = ap Text (own r s e)
