-- What a run under a budget answers.
use Rattle.std.specs.Prelude.{◌≡◌, List, ℕ, suc, ◌+◌, ◌≤◌, ℤ}
use Rattle.std.specs.Int.{w32}
use Rattle.std.proofs.Common.{to_z}
use Rattle.language.specs.Kept.{kept_of}
use Rattle.language.specs.declared.Statement.{Statement}
use Rattle.machine.specs.Machine.{Final, written, faulted, State, before, ended, after}
use Rattle.machine.specs.Ticks.{ticks}
use Rattle.machine.specs.declared.Next.{Next}
use Rattle.machine.specs.declared.Next.TheVariants.{Goto, Finish}
use Rattle.machine.specs.declared.Next.TheVariants as next
use Rattle.machine.specs.declared.Answer.{Answer}
use Rattle.machine.specs.declared.Answer.TheVariants.{Ended, Fault, Spent}

-- the state that `step` answers, with the values that it leaves
abbrev pub state_of : Next → List ℕ → State
state_of (Goto s) vs = before s vs
state_of (Finish v) vs = ended (written v (kept_of vs))
state_of (next.Fault s) vs = ended (faulted s)

-- the run's last step is number k: before it the run stands before a statement, after it the run has ended as v says
pub record Ends (P : List Statement) (vs : List ℕ) (input k : ℕ) (v : Final) : Type 0 where
  pub last : ℕ
  pub left : List ℕ
  pub steps : ℕ
  pub counted : k ≡ suc steps
  pub stands : after P vs input steps ≡ before last left
  pub over : after P vs input k ≡ ended v

-- "answers the value, signed, and the steps taken if it ends within them; otherwise it answers 'spent', with the statement and 32
-- values after that many steps", 64 by document 02. ws are the values beside the answer: those, or else the starting ones. ks are the kept ones beside it:
-- those at the end where the run ended, else those of the start. Document 02: "'fault', the statement and the steps, that step counted"; "A run's answer gains the
-- ticks of the statements that it performed": t, under the table of prices ps
abbrev pub Answers : List ℕ → List Statement → List ℕ → ℕ → ℕ → Answer → List ℕ → List ℕ → Type 0
Answers ps P vs input budget (Ended value steps t) ws ks =
    (v : ℕ) × Ends P vs input steps (written v ks) × (steps ≤ budget) × (value ≡ to_z w32 v) × (ws ≡ vs) × (t ≡ ticks ps P vs input steps)
Answers ps P vs input budget (Fault n steps t) ws ks =
    (s : ℕ) × Ends P vs input steps (faulted s) × (steps ≤ budget) × (n ≡ s + 1) × (ws ≡ vs) × (ks ≡ kept_of vs) × (t ≡ ticks ps P vs input steps)
Answers ps P vs input budget (Spent n t) ws ks =
    (s : ℕ) × (n ≡ s + 1) × (after P vs input budget ≡ before s ws) × (ks ≡ kept_of vs) × (t ≡ ticks ps P vs input budget)
