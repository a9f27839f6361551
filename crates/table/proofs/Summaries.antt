-- The counts of a row, and that a set has one count and one first place only. Assumes nothing.
use mathlib.Core.Path.{◌≡◌, refl, sym, ap, ◌∙◌}
use mathlib.Core.Bool.{Bool, true, false}
use mathlib.Core.Logic.{◌⊎◌, inl, inr}
use Prim.Native.Nat.{ℕ, ◌+◌, ◌<◌}
use native.Mathlib.Omega.{arith}
use lib.Dec.{ltb}
use borrow.Author.Tests.{ltb-true, ltb-false}
use Rattle.bits.proofs.Counts.{count-ext}
use Rattle.base.proofs.Bools.{clash}
use Rattle.table.specs.Summary.{Counts}

-- the counts of the same set
module _ (f g : ℕ → Bool) (n : ℕ) (same : (j : ℕ) → f j ≡ g j) where
  earliest-unique : {a b : ℕ} → ((a ≡ 0) × ((s : ℕ) → s < n → f s ≡ false)) ⊎ ((s : ℕ) × (a ≡ s + 1) × (s < n) × (f s ≡ true) × ((j : ℕ) → j < s → f j ≡ false))
      → ((b ≡ 0) × ((s : ℕ) → s < n → g s ≡ false)) ⊎ ((s : ℕ) × (b ≡ s + 1) × (s < n) × (g s ≡ true) × ((j : ℕ) → j < s → g j ≡ false)) → a ≡ b
  earliest-unique (inl x) (inl y) = x.0 ∙ sym y.0
  earliest-unique (inl x) (inr y) = clash (same y.0 ∙ y.3) (x.1 y.0 y.2)
  earliest-unique (inr x) (inl y) = clash x.3 (same x.0 ∙ y.1 x.0 x.2)
  earliest-unique (inr x) (inr y) = x.1 ∙ ap (λ (s : ℕ). s + 1) (go (ltb x.0 y.0) refl (ltb y.0 x.0) refl) ∙ sym y.1
    where
      go : (p : Bool) → ltb x.0 y.0 ≡ p → (q : Bool) → ltb y.0 x.0 ≡ q → x.0 ≡ y.0
      go true e q d = clash x.3 (same x.0 ∙ y.4 x.0 (ltb-true x.0 y.0 e))
      go false e true d = clash (same y.0 ∙ y.3) (x.4 y.0 (ltb-true y.0 x.0 d))
      go false e false d = omega (arith, ltb-false x.0 y.0 e, ltb-false y.0 x.0 d)

  pub counts-unique : {s a t b : ℕ} → Counts f n s a → Counts g n t b → (s ≡ t) × (a ≡ b)
  counts-unique x y = (x.counted ∙ count-ext f g n (λ j l. same j) ∙ sym y.counted, earliest-unique x.earliest y.earliest)
