-- What is told of a program: the numbers and the arms of its statements.
use Rattle.std.specs.Prelude.{◌≡◌, List, Bool, ℕ, ◌*◌, ◌≤◌, ◌<◌, length, get_or, drop}
use Rattle.language.specs.declared.Statement.{Statement}
use Rattle.language.specs.Spelling.{variables}
use Rattle.ctl.specs.Paths.{forward}
use Rattle.flow.specs.Flow.{steps}
use Rattle.flow.specs.FlowOf.{flow_entries, flow_at, FlowOf}
use Rattle.forcing.specs.Numbers.{Told}
use Rattle.arms.specs.Arms.{ArmsOf, Strategies}

-- the numbers and the arms of the statements of P, with the driver's places in `mine`: where he can force X, how, and where the unit
-- avoids it
pub record Forced (P : List Statement) (mine : ℕ → Bool) (X : ℕ → Type 0) (numbers arms : List ℕ) : Type 0 where
  pub told : (s : ℕ) → s < length P → Told (length P) (steps P forward) mine X numbers s
  pub chosen : ArmsOf P mine numbers arms
  pub strategies : (s : ℕ) → s < length P → Strategies P (steps P forward) mine X numbers arms s

-- what stands after the first n entries is kept
pub record Kept (n : ℕ) (numbers numbers' arms arms' : List ℕ) : Type 0 where
  pub numbers_kept : drop n numbers' ≡ drop n numbers
  pub arms_kept : (s : ℕ) → n ≤ s → get_or arms' s 0 ≡ get_or arms s 0

-- the control-flow graph of P in lent numbers, and room for the variables and for n places
pub record Lent (P : List Statement) (n : ℕ) (flow named goal numbers arms : List ℕ) : Type 0 where
  pub size : length flow ≡ flow_entries
  pub flows : FlowOf P (flow_at flow)
  pub named_room : variables ≤ length named * 64
  pub goal_room : n ≤ length goal * 64
  pub numbers_room : n ≤ length numbers
  pub arms_room : n ≤ length arms
