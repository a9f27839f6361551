-- Weak until with the literal sum `Until ⊎ Globally` in place of the "or" that means "not both fail". For some path the two are the
-- same on every finite graph. For all paths the sum would decide every endless sequence of bits. Assumes nothing.
use mathlib.Core.Path.{◌≡◌, refl}
use mathlib.Core.Bool.{Bool, true, false, cond}
use mathlib.Core.Logic.{◌⊎◌, inl, inr, ◌↔◌, ⊎_elim}
use Prim.Native.Nat.{ℕ, zero, suc, ◌<◌}
use native.Mathlib.Omega.{arith}
use lib.Dec.{ltb}
use borrow.Author.Tests.{ltb-true, lt-ltb}
use Rattle.base.proofs.Bools.{split, clash}
use Rattle.ctl.specs.Paths.{E, A, Paths, Until, Globally, Weak, So, Graph}
use Rattle.ctl.proofs.Paths.{paths-map}
use Rattle.ctl.proofs.Until.{until-table}
use Rattle.ctl.proofs.Weak.{steady-of-weak, weak-of-steady, steady-until}
use Rattle.ctl.proofs.Least.{test, least, until_rule, until-least}

abbrev Sum : (ℕ → Type 0) → (ℕ → Type 0) → (ℕ → ℕ) → Type 0
Sum P Q π = Until P Q π ⊎ Globally P π

-- the table of E[p U q] tells which of the two holds
pub some-weak-sum : {n : ℕ} {step : ℕ → ℕ → Bool} → Graph n step → (p q : ℕ → Bool) (s : ℕ) → s < n
    → Paths E step s (Weak (So p) (So q)) ↔ Paths E step s (λ π. Until (So p) (So q) π ⊎ Globally (So p) π)
some-weak-sum {n} {step} g p q s l = (there, paths-map step E _ _ s (λ π w x f. ⊎_elim f.0 f.1 x))
  where
    z : ℕ → Bool
    z = test (least n (until_rule g E p q))

    exact : (z s ≡ true) ↔ Paths E step s (Until (So p) (So q))
    exact = until-table g p q E z (until-least g E p q) s l

    there : Paths E step s (Weak (So p) (So q)) → Paths E step s (Sum (So p) (So q))
    there (π, w, h) = ⊎_elim (λ t. paths-map step E _ _ s (λ _ _. inl) (exact.0 t)) (λ f. (π, w, inr (always f))) (split (z s))
      where
        always : z s ≡ false → Globally (So p) π
        always f i =
            let st = steady-of-weak p q π h in
            ⊎_elim (λ t. t) (λ v. clash (exact.1 (π, w, steady-until p q π st (suc v.0) v.0 (omega arith) v.2)) f) (st i)

-- whether a sequence of bits has a 1: decided for no program that reads the sequence bit by bit
abbrev Decided : Type 0
Decided = (a : ℕ → Bool) → ((i : ℕ) × (a i ≡ true)) ⊎ ((i : ℕ) → a i ≡ false)

-- two places, each of which steps to both: its paths are the sequences of bits
pub all-weak-sum : ((n : ℕ) (step : ℕ → ℕ → Bool) → Graph n step → (p q : ℕ → Bool) (s : ℕ) → s < n → Paths A step s (Weak (So p) (So q)) → Paths A step s (λ π. Until (So p) (So q) π ⊎ Globally (So p) π)) → Decided
all-weak-sum sum a =
    ⊎_elim (λ u. inl (u.0, up (a u.0) u.1)) (λ h. inr (λ i. down (a i) (h i)))
    (sum 2 both two at0 at1 (π 0) (low (a 0)) weak π (refl, λ i. lt-ltb (π (suc i)) 2 (low (a (suc i)))))
  where
    both : ℕ → ℕ → Bool
    both s t = ltb t 2

    two : Graph 2 both
    two = record { inside = λ s t l e. ltb-true t 2 e; onward = λ s l. (0, lt-ltb 0 2 (omega arith)) }

    at0 : ℕ → Bool
    at0 zero = true
    at0 (suc k) = false

    at1 : ℕ → Bool
    at1 zero = false
    at1 (suc k) = true

    place : Bool → ℕ
    place b = cond b 1 0

    π : ℕ → ℕ
    π i = place (a i)

    low : (b : Bool) → place b < 2
    low true = omega arith
    low false = omega arith

    up : (b : Bool) → at1 (place b) ≡ true → b ≡ true
    up true e = refl
    up false e = e

    down : (b : Bool) → at0 (place b) ≡ true → b ≡ false
    down true e = clash e refl
    down false e = refl

    one_of : (k : ℕ) → (at0 k ≡ true) ⊎ (at1 k ≡ true)
    one_of zero = inl refl
    one_of (suc k) = inr refl

    weak : Paths A both (π 0) (Weak (So at0) (So at1))
    weak ρ w = weak-of-steady (So at0) (So at1) ρ (λ i. ⊎_elim inl (λ e. inr (i, omega arith, e)) (one_of (ρ i)))
