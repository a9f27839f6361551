-- How a run ends, and where it is spent, as it computes. Assumes nothing.
use mathlib.Core.Path.{◌≡◌, refl, ap, ◌∙◌}
use mathlib.Core.List.{List}
use Prim.Native.Nat.{ℕ, suc, ◌+◌, ◌≤◌}
use lib.IntN.{ℤ}
use mir.Syntax.{w32}
use mir.Val.{to_z}
use Rattle.language.specs.Kept.{kept_of}
use Rattle.language.specs.declared.Statement.{Statement}
use Rattle.machine.specs.declared.Answer.TheVariants.{Ended, Spent}
use Rattle.machine.specs.Machine.{written, faulted, State, before, ended, after}
use Rattle.pricing.specs.Prices.{ours}
use Rattle.machine.specs.Ticks.{ticks}
use Rattle.machine.specs.Answer.{Answers}

-- the step from p to q ends the run with the value and the kept ones
abbrev pub Ending : State → State → ℤ → List ℕ → Type 0
Ending (before s us) (ended (written v hs)) value ks = (value ≡ to_z w32 v) × (hs ≡ ks)
Ending (before s us) (ended (faulted t)) value ks = ⊥
Ending (before s us) (before t vs) value ks = ⊥
Ending (ended v) q value ks = ⊥

-- the run stands before statement n with the values ws
abbrev pub Standing : State → ℕ → List ℕ → Type 0
Standing (before s us) n ws = (n ≡ s + 1) × (us ≡ ws)
Standing (ended v) n ws = ⊥

module _ (P : List Statement) (vs : List ℕ) (input : ℕ) where
  pub ending-answers : (k : ℕ) (value : ℤ) (t : ℕ) (ks : List ℕ) → Ending (after P vs input k) (after P vs input (suc k)) value ks → t ≡ ticks ours P vs input (suc k)
      → (budget : ℕ) → suc k ≤ budget → Answers ours P vs input budget (Ended value (suc k) t) vs ks
  ending-answers k value t ks end paid = go (after P vs input k) (after P vs input (suc k)) refl refl end
    where
      go : (p q : State) → after P vs input k ≡ p → after P vs input (suc k) ≡ q → Ending p q value ks
          → (budget : ℕ) → suc k ≤ budget → Answers ours P vs input budget (Ended value (suc k) t) vs ks
      go (before s us) (ended (written v hs)) e f h budget enough =
          let over = f ∙ ap (λ (l : List ℕ). ended (written v l)) h.1 in
          (v, record { last = s; left = us; steps = k; counted = refl; stands = e; over = over }, enough, h.0, refl, paid)
      go (before s us) (ended (faulted t)) e f h budget enough = absurd h
      go (before s us) (before t ws) e f h budget enough = absurd h
      go (ended v) q e f h budget enough = absurd h

  pub standing-answers : (budget n t : ℕ) (ws : List ℕ) → Standing (after P vs input budget) n ws → t ≡ ticks ours P vs input budget
      → Answers ours P vs input budget (Spent n t) ws (kept_of vs)
  standing-answers budget n t ws stand paid = go (after P vs input budget) refl stand
    where
      go : (p : State) → after P vs input budget ≡ p → Standing p n ws → Answers ours P vs input budget (Spent n t) ws (kept_of vs)
      go (before s us) e h = (s, h.0, e ∙ ap (before s) h.1, refl, paid)
      go (ended v) e h = absurd h
