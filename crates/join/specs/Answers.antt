-- What `run` answers of a joined program, by what it answers of the road and of the creeper program, all three under one table of prices ps. All that is
-- said of answers of runs by joined programs stands here.
use Rattle.std.specs.Prelude.{◌≡◌, List, ℕ, ◌+◌, ◌-◌, ◌≤◌, length, get_or, Result, Ok}
use Rattle.std.specs.Int.{w32}
use Rattle.std.proofs.Common.{to_z}
use Rattle.language.specs.declared.Statement.{Statement}
use Rattle.program.specs.Program.{at}
use Rattle.machine.specs.declared.Answer.{Answer}
use Rattle.machine.specs.declared.Answer.TheVariants.{Ended, Fault, Spent}
use Rattle.run.specs.Run.{most_steps, RunFinished, RunAnswers}
use Rattle.execution.specs.declared.Outcome.{Outcome}
use Rattle.run.specs.declared.Refusal.{Refusal}
use Rattle.joining.specs.Joining.{writes}

-- b is the answer a, d statements and k steps further on: the same value and kept ones, the same fault, or the same values where it is spent. b has
-- ticks c of its own, of which nothing is said here
abbrev pub Onward : ℕ → ℕ → Answer → List ℕ → List ℕ → Answer → List ℕ → List ℕ → Type 0
Onward d k (Ended x m t) ws ks b us hs = (c : ℕ) × (b ≡ Ended x (k + m) c) × (hs ≡ ks)
Onward d k (Fault n m t) ws ks b us hs = (c : ℕ) × (b ≡ Fault (d + n) (k + m) c)
Onward d k (Spent n t) ws ks b us hs = (c : ℕ) × (b ≡ Spent (d + n) c) × (us ≡ ws)

-- whatever a call of `run` with the text w answers is that
abbrev pub Goes : List ℕ → List ℕ → List ℕ → ℕ → ℕ → ℕ → ℕ → Answer → List ℕ → List ℕ → Type 0
Goes ps w vs input budget d k a ws ks =
    (r : Result Outcome Refusal) → RunAnswers ps w vs input budget r → (o : Outcome) × (r ≡ Ok o) × Onward d k a ws ks o.answer o.values o.kept

abbrev pub Unended : Answer → Type 0
Unended (Ended x k t) = ⊥
Unended (Fault n k t) = Unit
Unended (Spent n t) = Unit

-- `run` answers that the road, whose text is t and which writes x, ends with v after k steps, whatever its ticks. The values that it left are those that `run` tells
-- under a budget one step short, and v is x's among them
pub record RoadEnds (ps t : List ℕ) (x : ℕ) (vs : List ℕ) (input k v : ℕ) (left : List ℕ) : Type 0 where
  pub budget : ℕ
  pub paid : ℕ
  pub values : List ℕ
  pub kept : List ℕ
  pub ends : RunFinished ps t vs input budget (Ended (to_z w32 v) k paid) values kept
  pub told : Answer
  pub beside : List ℕ
  pub short : RunFinished ps t vs input (k - 1) told left beside
  pub value : v ≡ get_or left x 0

-- t is the text of the road P, u the creeper's and w the joined one
pub record JoinedAnswers (ps : List ℕ) (P : List Statement) (t u w vs : List ℕ) (input : ℕ) : Type 0 where
  -- where the road is spent or faults, the whole answers the same
  pub road : (budget : ℕ) (a : Answer) (ws ks : List ℕ) → RunFinished ps t vs input budget a ws ks → Unended a → Goes ps w vs input budget 0 0 a ws ks
  -- where it ends after k steps, the whole answers, under a budget larger by k - 1, what the creeper answers that is started with what the road left
  pub creeper : (k v : ℕ) (left : List ℕ) → RoadEnds ps t (writes (at P (length P - 1))) vs input k v left → (budget : ℕ) → k - 1 + budget ≤ most_steps
      → (a : Answer) (ws ks : List ℕ) → RunFinished ps u left v budget a ws ks → Goes ps w vs input (k - 1 + budget) (length P - 1) (k - 1) a ws ks
