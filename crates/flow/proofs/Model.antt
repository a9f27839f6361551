-- The model's steps of a program in either direction are a graph, each direction turns the other around, and a predecessor is a place
-- before the last that steps forward. Assumes nothing.
use mathlib.Core.Path.{◌≡◌, refl, sym, ap, ◌∙◌}
use mathlib.Core.List.{List}
use mathlib.Core.Bool.{Bool, true, false, not, ◌&&◌, ◌||◌, and-false, or-false}
use mathlib.Core.Logic.{⊎_elim}
use Prim.Native.Nat.{ℕ, ◌+◌, ◌-◌, ◌≤◌, ◌<◌}
use native.Mathlib.Decide.{dec_lt}
use native.Mathlib.Omega.{arith}
use lib.ListN.{length}
use lib.Dec.{eqb, ltb}
use borrow.Author.Tests.{ltb-true, eqb-true, eq-eqb, ne_eqb, lt-ltb, le-ltb}
use Rattle.base.proofs.Bools.{and_left, and_right, and_both, or_case, or_left, or_right, not_of_false, find-below}
use Rattle.language.specs.declared.Statement.{Statement}
use Rattle.language.specs.declared.Statement.TheVariants.{Read, Write, Assign, Branch, Skip}
use Rattle.program.specs.Program.{at, InPlace, Targets, WellFormed}
use Rattle.ctl.specs.Paths.{Graph, Direction, forward, backward}
use Rattle.graph.specs.Graphs.{Opposite}
use Rattle.flow.specs.Flow.{leads, is_write, steps_forward, precedes, some, steps_backward, steps}
use Rattle.flow.proofs.Some.{some-none}

-- ---- one statement x at place s of n

module _ (n s : ℕ) (several : 2 ≤ n) (below : s < n) where
  leads-inside : (x : Statement) (t : ℕ) → InPlace n s x → Targets n x → leads x s t ≡ true → t < n
  leads-inside (Read x) t p a e = omega (arith, eqb-true (s + 1) t e)
  leads-inside (Write x) t p a e = absurd (let z : ◌≡◌ {A = ℕ} 0 1 = cc in omega arith)
  leads-inside (Assign x v) t p a e = omega (arith, eqb-true (s + 1) t e)
  leads-inside (Branch x k m) t p a e =
      ⊎_elim (λ h. omega (arith, eqb-true (k - 1) t h)) (λ h. omega (arith, eqb-true (m - 1) t h)) (or_case (eqb (k - 1) t) (eqb (m - 1) t) e)
  leads-inside Skip t p a e = omega (arith, eqb-true (s + 1) t e)

  -- the last statement leads nowhere
  leads-last : (x : Statement) (t : ℕ) → InPlace n s x → s + 1 ≡ n → leads x s t ≡ false
  leads-last (Read x) t p e = absurd (omega arith)
  leads-last (Write x) t p e = refl
  leads-last (Assign x v) t p e = absurd (omega arith)
  leads-last (Branch x k m) t p e = absurd (omega arith)
  leads-last Skip t p e = absurd (omega arith)

  -- the others are no `write`
  before_last : (x : Statement) → InPlace n s x → s + 1 < n → is_write x ≡ false
  before_last (Read x) p l = refl
  before_last (Write x) p l = absurd (omega arith)
  before_last (Assign x v) p l = refl
  before_last (Branch x k m) p l = refl
  before_last Skip p l = refl

  steps-somewhere : (x : Statement) → (t : ℕ) × ((leads x s t || (is_write x && eqb s t)) ≡ true)
  steps-somewhere (Read x) = (s + 1, or_left (eqb (s + 1) (s + 1)) false (eq-eqb (s + 1) (s + 1) refl))
  steps-somewhere (Write x) = (s, eq-eqb s s refl)
  steps-somewhere (Assign x v) = (s + 1, or_left (eqb (s + 1) (s + 1)) false (eq-eqb (s + 1) (s + 1) refl))
  steps-somewhere (Branch x k m) = (k - 1, or_left (eqb (k - 1) (k - 1) || eqb (m - 1) (k - 1)) false (or_left (eqb (k - 1) (k - 1)) (eqb (m - 1) (k - 1)) (eq-eqb (k - 1) (k - 1) refl)))
  steps-somewhere Skip = (s + 1, or_left (eqb (s + 1) (s + 1)) false (eq-eqb (s + 1) (s + 1) refl))

-- ---- the program

abbrev pub reverse : Direction → Direction
reverse forward = backward
reverse backward = forward

module _ (P : List Statement) (w : WellFormed P) where
  abbrev n : ℕ
  n = length P

  pub forward-inside : (s t : ℕ) → s < length P → steps_forward P s t ≡ true → t < length P
  forward-inside s t l e =
      ⊎_elim (λ h. leads-inside n s w.counted.0 l (at P s) t (w.placed s l) (w.aimed s l) h)
      (λ h. omega (arith, eqb-true s t (and_right (is_write (at P s)) (eqb s t) h)))
      (or_case (leads (at P s) s t) (is_write (at P s) && eqb s t) e)

  backward-inside : (s t : ℕ) → s < length P → steps_backward P s t ≡ true → t < length P
  backward-inside s t l e =
      ⊎_elim (λ h. ltb-true t n (and_left (ltb t n) (leads (at P t) t s) h))
      (λ h. omega (arith, eqb-true s t (and_left (eqb s t) (not (some n (λ u. precedes P u s))) h)))
      (or_case (precedes P t s) (eqb s t && not (some n (λ u. precedes P u s))) e)

  backward-onward : (s : ℕ) → (t : ℕ) × (steps_backward P s t ≡ true)
  backward-onward s =
      ⊎_elim (λ u. (u.0, or_left (precedes P u.0 s) (eqb s u.0 && not (some n (λ v. precedes P v s))) u.2))
      (λ h. (s, or_right (precedes P s s) (eqb s s && not (some n (λ v. precedes P v s))) (and_both (eqb s s) (not (some n (λ v. precedes P v s))) (eq-eqb s s refl) (not_of_false (some n (λ v. precedes P v s)) (some-none n (λ v. precedes P v s) h)))))
      (find-below n (λ v. precedes P v s))

  pub steps-graph : (d : Direction) → Graph (length P) (steps P d)
  steps-graph forward = record { inside = forward-inside; onward = λ s l. steps-somewhere n s w.counted.0 l (at P s) }
  steps-graph backward = record { inside = backward-inside; onward = λ s l. backward-onward s }

  -- before the last place, a step forward is where a run may go
  forward-leads : (s t : ℕ) → s + 1 < length P → steps_forward P s t ≡ leads (at P s) s t
  forward-leads s t l =
      ap (λ (b : Bool). leads (at P s) s t || (b && eqb s t)) (before_last n s w.counted.0 (omega arith) (at P s) (w.placed s (omega arith)) l) ∙ or-false (leads (at P s) s t)

  -- a place precedes another if it is before the last and steps forward to it
  pub precedes-forward : (t s : ℕ) → (ltb t (length P - 1) && steps_forward P t s) ≡ precedes P t s
  precedes-forward t s = go (dec_lt (t + 1) n) (dec_lt t n)
    where
      go : Dec (t + 1 < n) → Dec (t < n) → (ltb t (n - 1) && steps_forward P t s) ≡ precedes P t s
      go (yes l) d = rw (lt-ltb t (n - 1) (omega arith), lt-ltb t n (omega arith)) (forward-leads t s l)
      go (no l) (yes b) = rw (le-ltb t (n - 1) (omega arith), lt-ltb t n b) (sym (leads-last n t w.counted.0 b (at P t) s (w.placed t b) (omega arith)))
      go (no l) (no b) = rw (le-ltb t (n - 1) (omega arith), le-ltb t n (omega arith))

  -- between two places, a step backward is one forward turned around
  backward-turned : (s t : ℕ) → s < length P → (s ≡ t → ⊥) → steps_backward P t s ≡ steps_forward P s t
  backward-turned s t l d =
      rw (ne_eqb t s (λ e. d (sym e)), ne_eqb s t d, lt-ltb s n l) (or-false (leads (at P s) s t) ∙ sym (ap (λ (b : Bool). leads (at P s) s t || b) (and-false (is_write (at P s))) ∙ or-false (leads (at P s) s t)))

  pub steps-opposite : (d : Direction) → Opposite (length P) (steps P d) (steps P (reverse d))
  steps-opposite forward = record { turned = λ s t ls lt d. backward-turned s t ls d }
  steps-opposite backward = record { turned = λ s t ls lt d. sym (backward-turned t s lt (λ e. d (sym e))) }
