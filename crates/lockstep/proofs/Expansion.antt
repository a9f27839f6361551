-- The expansion laws of the path operators that the rules use, on conditions: what is true at a place, by what is true there and where it
-- steps to. Assumes nothing.
use mathlib.Core.Path.{◌≡◌}
use mathlib.Core.Bool.{true}
use mathlib.Core.List.{List}
use Prim.Native.Nat.{ℕ, zero, suc, ◌<◌, suc-le-suc}
use native.Mathlib.Omega.{arith}
use native.Mathlib.Nat.{not-suc-le-zero, le_of_suc-le-suc}
use lib.ListN.{length}
use Rattle.language.specs.declared.Statement.{Statement}
use Rattle.program.specs.Program.{WellFormed}
use Rattle.ctl.specs.Paths.{A, E, Path, Until, Weak, Direction}
use Rattle.ctl.proofs.Paths.{cons, path-cons, some-path, next-iff}
use Rattle.flow.specs.Flow.{steps}
use Rattle.flow.proofs.Model.{steps-graph}
use Rattle.condition.specs.Condition.{next, until, weak, Unary, negation, Condition, unary, binary}
use Rattle.condition.specs.Condition as condition
use Rattle.truth.specs.Truth.{SatBy}

-- ---- weak until on one path

module _ (X Y : ℕ → Type 0) (π : ℕ → ℕ) where
  -- where q fails at the first place, p doesn't fail there
  weak-first : Weak X Y π → ¬ Y (π 0) → ¬ ¬ X (π 0)
  weak-first h none out = h (no-until, λ all. out (all 0))
    where
      no-until : ¬ Until X Y π
      no-until (zero, y, b) = none y
      no-until (suc i, y, b) = out (b 0 (omega arith))

  -- and the rest of the path is weak too
  weak-rest : Weak X Y π → ¬ Y (π 0) → Weak X Y (λ i. π (suc i))
  weak-rest h none (nu, ng) = h (no-until, λ all. ng (λ i. all (suc i)))
    where
      no-until : ¬ Until X Y π
      no-until (zero, y, b) = none y
      no-until (suc i, y, b) = nu (i, y, λ j l. b (suc j) (suc-le-suc l))

pub denied : (U : ℕ → ℕ → Type 0) (P : List Statement) (p : Condition) (s : ℕ) → SatBy U P (unary negation p) s → ¬ SatBy U P p s
unfolding SatBy
denied U P p s c = c

-- ---- at place s, which may step to t

module _ (U : ℕ → ℕ → Type 0) {P : List Statement} (w : WellFormed P) (d : Direction) {s : ℕ} (l : s < length P) where
  -- EX, EY
  pub some_next : (p : Condition) (t : ℕ) → steps P d s t ≡ true → SatBy U P p t → SatBy U P (unary (Unary.path E d next) p) s
  unfolding SatBy
  some_next p t go h = (next-iff (steps-graph P w d) E (SatBy U P p) s l).0 (t, go, h)

  -- AX, AY
  pub all-next : (p : Condition) → ((t : ℕ) → steps P d s t ≡ true → SatBy U P p t) → SatBy U P (unary (Unary.path A d next) p) s
  unfolding SatBy
  all-next p h = (next-iff (steps-graph P w d) A (SatBy U P p) s l).0 h

  pub next-all : (p : Condition) → SatBy U P (unary (Unary.path A d next) p) s → (t : ℕ) → steps P d s t ≡ true → SatBy U P p t
  unfolding SatBy
  next-all p c t go = (next-iff (steps-graph P w d) A (SatBy U P p) s l).1 c t go

  module _ (p q : Condition) where
    -- E[p U q], E[p S q]
    pub until-now : SatBy U P q s → SatBy U P (binary (condition.Binary.path E d until) p q) s
    unfolding SatBy
    until-now h = by (some-path (steps-graph P w d) s l)
      where
        by : (π : ℕ → ℕ) × Path (steps P d) s π → SatBy U P (binary (condition.Binary.path E d until) p q) s
        by (π, f) = (π, f, (0, rw f.0 h, λ j b. absurd (not-suc-le-zero b)))

    pub until-later :
        SatBy U P p s → (t : ℕ) → steps P d s t ≡ true → SatBy U P (binary (condition.Binary.path E d until) p q) t
        → SatBy U P (binary (condition.Binary.path E d until) p q) s
    unfolding SatBy cons
    until-later h t go (π, f, (i, y, b)) = (cons s π, path-cons (steps P d) s t π go f, (suc i, y, before))
      where
        before : (j : ℕ) → j < suc i → SatBy U P p (cons s π j)
        before zero k = h
        before (suc j) k = b j (le_of_suc-le-suc k)

    -- A[p W q], A[p B q], where q isn't true: p doesn't fail here, and the same is true at the next places
    module _ (c : SatBy U P (binary (condition.Binary.path A d weak) p q) s) (none : ¬ SatBy U P q s) where
      pub weak-now : ¬ ¬ SatBy U P p s
      unfolding SatBy
      weak-now = by (some-path (steps-graph P w d) s l)
        where
          by : (π : ℕ → ℕ) × Path (steps P d) s π → ¬ ¬ SatBy U P p s
          by (π, f) = rw f.0 at (weak-first (SatBy U P p) (SatBy U P q) π (c π f) (rw f.0 none))

      pub weak-later : (t : ℕ) → steps P d s t ≡ true → SatBy U P (binary (condition.Binary.path A d weak) p q) t
      unfolding SatBy cons
      weak-later t go π f = weak-rest (SatBy U P p) (SatBy U P q) (cons s π) (c (cons s π) (path-cons (steps P d) s t π go f)) none
