-- What a run of the joined program does, from one start and with one input: what the road program's run does, and once that has ended what
-- the creeper program's run does that is started with the values that the road left and its written value. Document 02, Wish 9.
use Rattle.std.specs.Prelude.{◌≡◌, List, ℕ, suc, ◌+◌, ◌-◌, length}
use Rattle.language.specs.declared.Statement.{Statement}
use Rattle.machine.specs.Machine.{Final, written, faulted, State, before, ended, after}
use Rattle.machine.specs.Answer.{Ends}

-- how the creeper's run ended, told of the joined one: "the second's has its new number"
abbrev pub shift_end : ℕ → Final → Final
shift_end d (written v ks) = written v ks
shift_end d (faulted s) = faulted (d + s)

-- where the creeper's run stands, told of the joined one
abbrev pub shift : ℕ → State → State
shift d (before s vs) = before (d + s) vs
shift d (ended f) = ended (shift_end d f)

abbrev pub Endless : List Statement → List ℕ → ℕ → Type 0
Endless P vs input = (k : ℕ) (f : Final) → after P vs input k ≡ ended f → ⊥

-- P is the road program, Q the creeper program and J the joined one
pub record JoinedRuns (P Q J : List Statement) (vs : List ℕ) (input : ℕ) : Type 0 where
  -- wherever the road's run stands before a statement, the joined run stands before the same one with the same values
  pub road : (k s : ℕ) (ws : List ℕ) → after P vs input k ≡ before s ws → after J vs input k ≡ before s ws
  -- "A fault in the first is a fault of the whole, at the same number", and the same step
  pub road_faults : (k s : ℕ) → Ends P vs input k (faulted s) → Ends J vs input k (faulted s)
  -- "if the first never ends, neither does the whole"
  pub road_endless : Endless P vs input → Endless J vs input
  -- the road ends at step k with v: after j steps more the whole is where the creeper, started with the values that the road left, those before
  -- its `write`, and with the input v, is after j + 1 steps
  pub creeper : (k v : ℕ) (ks : List ℕ) (e : Ends P vs input k (written v ks)) (j : ℕ) → after J vs input (k + j) ≡ shift (length P - 1) (after Q e.left v (suc j))
  -- "if both end, its steps are their sum less 1"; so too where the creeper ends by a fault
  pub both_end : (k v : ℕ) (ks : List ℕ) (e : Ends P vs input k (written v ks)) (m : ℕ) (f : Final) → Ends Q e.left v m f
      → Ends J vs input (k + m - 1) (shift_end (length P - 1) f)
  pub creeper_endless : (k v : ℕ) (ks : List ℕ) (e : Ends P vs input k (written v ks)) → Endless Q e.left v → Endless J vs input
