-- Among n + 1 numbers below n two are the same; and what is left of a path where the places between are cut out. Assumes nothing.
use mathlib.Core.Path.{◌≡◌, refl, sym, ◌∙◌, ap}
use mathlib.Core.Bool.{Bool, true, false, ◌||◌, cond}
use mathlib.Core.Logic.{◌⊎◌, inl, inr, ⊎_elim}
use Prim.Native.Nat.{ℕ, zero, suc, ◌+◌, ◌-◌, ◌≤◌, ◌<◌}
use native.Mathlib.Omega.{arith}
use native.Mathlib.Decide.{dec_lt}
use lib.Dec.{ltb, eqb}
use borrow.Author.Tests.{lt-ltb, le-ltb, eqb-true, eq-eqb}
use Rattle.bits.specs.Row.{count_below}
use Rattle.base.proofs.Bools.{split, clash, or_case, or_left, or_right, last-or-below}
use Rattle.bits.proofs.Counts.{count-le, count_less}
use Rattle.ctl.specs.Paths.{Path}

-- the first number below m at which a test holds, if any
pub first : (m : ℕ) (f : ℕ → Bool) → ((i : ℕ) → i < m → f i ≡ false) ⊎ ((i : ℕ) × (f i ≡ true) × ((j : ℕ) → j < i → f j ≡ false))
first zero f = inl (λ i l. absurd (omega arith))
first (suc m) f =
    ⊎_elim (λ none. ⊎_elim (λ e. inr (m, e, none)) (λ e. inl (last-or-below m (λ i. f i ≡ false) e none)) (split (f m))) inr (first m f)

module _ (f : ℕ → ℕ) where
  -- two of the first m are the same
  abbrev pub Repeats : ℕ → Type 0
  Repeats m = (a : ℕ) × (d : ℕ) × (a + suc d < m) × (f a ≡ f (a + suc d))

  -- whether s is one of the first k
  seen : ℕ → ℕ → Bool
  seen zero s = false
  seen (suc k) s = seen k s || eqb (f k) s

  seen_at : (k s : ℕ) → seen k s ≡ true → (a : ℕ) × (a < k) × (f a ≡ s)
  unfolding seen
  seen_at zero s e = clash e refl
  seen_at (suc k) s e =
      ⊎_elim (λ t. let w = seen_at k s t in (w.0, omega arith, w.2)) (λ t. (k, omega arith, eqb-true (f k) s t)) (or_case (seen k s) (eqb (f k) s) e)

  -- while none is the same as an earlier one, each counts
  repeat-or-count : (n k : ℕ) → ((i : ℕ) → i < k → f i < n) → Repeats k ⊎ (k ≤ count_below (seen k) n)
  unfolding seen
  repeat-or-count n zero l = inr (omega arith)
  repeat-or-count n (suc k) l =
      ⊎_elim (λ r. inl (r.0, r.1, omega (arith, r.2), r.3))
      (λ h. ⊎_elim (λ t. inl (again (seen_at k (f k) t))) (λ e. inr (more h e)) (split (seen k (f k))))
      (repeat-or-count n k (λ i b. l i (omega arith)))
    where
      again : (a : ℕ) × (a < k) × (f a ≡ f k) → Repeats (suc k)
      again (a, b, e) = let z : k ≡ a + suc (k - suc a) = omega arith in (a, k - suc a, omega arith, e ∙ ap f z)

      more : k ≤ count_below (seen k) n → seen k (f k) ≡ false → suc k ≤ count_below (λ s. seen k s || eqb (f k) s) n
      more h e =
          let new = or_right (seen k (f k)) (eqb (f k) (f k)) (eq-eqb (f k) (f k) refl) in
          let c = count_less (seen k) (λ s. seen k s || eqb (f k) s) n (λ j b. or_left (seen k j) (eqb (f k) j)) (f k) (l k (omega arith)) e new in
          omega (arith, c)

  pub repeat : (n : ℕ) → ((i : ℕ) → f i < n) → Repeats (suc n)
  repeat n l = ⊎_elim (λ r. r) (λ h. absurd (omega (arith, count-le (seen (suc n)) n))) (repeat-or-count n (suc n) (λ i _. l i))

-- ---- a path without the d places from a on, where the place at a is the one at a + d

unfoldable pub cut : ℕ → ℕ → (ℕ → ℕ) → ℕ → ℕ
cut a d π i = cond (ltb i a) (π i) (π (i + d))

module _ (a d : ℕ) (π : ℕ → ℕ) where
  pub cut-before : (i : ℕ) → i < a → cut a d π i ≡ π i
  unfolding cut
  cut-before i l = ap (λ (b : Bool). cond b (π i) (π (i + d))) (lt-ltb i a l)

  pub cut-past : (i : ℕ) → a ≤ i → cut a d π i ≡ π (i + d)
  unfolding cut
  cut-past i l = ap (λ (b : Bool). cond b (π i) (π (i + d))) (le-ltb i a l)

  module _ (same : π a ≡ π (a + d)) where
    cut-upto : (i : ℕ) → i ≤ a → cut a d π i ≡ π i
    cut-upto i l =
        elim (dec_lt i a) [
          | yes b ↦ cut-before i b
          | no b ↦ let z : i ≡ a = omega arith in cut-past i (omega arith) ∙ ap (λ (k : ℕ). π (k + d)) z ∙ sym same ∙ ap π (sym z)
        ]

    pub path-cut : (step : ℕ → ℕ → Bool) (s : ℕ) → Path step s π → Path step s (cut a d π)
    path-cut step s w = (cut-upto 0 (omega arith) ∙ w.0, goes)
      where
        goes : (i : ℕ) → step (cut a d π i) (cut a d π (suc i)) ≡ true
        goes i =
            elim (dec_lt i a) [
              | yes b ↦ rw (cut-upto i (omega arith), cut-upto (suc i) b) (w.1 i)
              | no b ↦ let z : suc i + d ≡ suc (i + d) = omega arith in rw (cut-past i (omega arith), cut-past (suc i) (omega arith), z) (w.1 (i + d))
            ]
