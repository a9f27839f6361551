-- The control-flow model of a program: document 01, "Conditions", first paragraph. Place s is statement s + 1.
use Rattle.std.specs.Prelude.{List, Bool, true, false, not, ◌&&◌, ◌||◌, ℕ, zero, suc, ◌+◌, ◌-◌, eqb, ltb, length}
use Rattle.language.specs.declared.Statement.{Statement}
use Rattle.language.specs.declared.Statement.TheVariants.{Read, Write, Assign, Branch, Skip}
use Rattle.program.specs.Program.{at}
use Rattle.ctl.specs.Paths.{Direction, forward, backward}

-- a run may go from the statement at place s to place t, "both arms of an `if` counted"
abbrev pub leads : Statement → ℕ → ℕ → Bool
leads (Read x) s t = eqb (s + 1) t
leads (Write x) s t = false
leads (Assign x e) s t = eqb (s + 1) t
leads (Branch x n m) s t = eqb (n - 1) t || eqb (m - 1) t
leads Skip s t = eqb (s + 1) t

abbrev pub is_write : Statement → Bool
is_write (Read x) = false
is_write (Write x) = true
is_write (Assign x e) = false
is_write (Branch x n m) = false
is_write Skip = false

-- "Forward, each statement steps to those a run may go to ..; `write` steps to itself."
abbrev pub steps_forward : List Statement → ℕ → ℕ → Bool
steps_forward P s t = leads (at P s) s t || (is_write (at P s) && eqb s t)

-- "Backward, each statement steps to those that step forward to it; the self-step of `write` is not counted backward": t comes before s
abbrev pub precedes : List Statement → ℕ → ℕ → Bool
precedes P t s = ltb t (length P) && leads (at P t) t s

-- f holds of some number below n
unfoldable pub some : ℕ → (ℕ → Bool) → Bool
some zero f = false
some (suc n) f = f n || some n f

-- "and a statement with no predecessor steps back to itself"
abbrev pub steps_backward : List Statement → ℕ → ℕ → Bool
steps_backward P s t = precedes P t s || (eqb s t && not (some (length P) (λ u. precedes P u s)))

abbrev pub steps : List Statement → Direction → ℕ → ℕ → Bool
steps P forward s t = steps_forward P s t
steps P backward s t = steps_backward P s t
