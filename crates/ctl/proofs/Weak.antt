-- Weak until, from the table of until for the other quantifier: `A[p W q]` is `!E[!q U (!p & !q)]`, and `E[p W q]` is
-- `!A[!q U (!p & !q)]`. Between them stands what says the same of one path without a choice between its two cases: at each place p, or
-- q there or before. Assumes nothing.
use mathlib.Core.Path.{◌≡◌}
use mathlib.Core.Bool.{Bool, true, false, not, ◌&&◌}
use mathlib.Core.Logic.Iff
use mathlib.Core.Logic.{◌⊎◌, inl, inr, ◌↔◌, ⊎_elim}
use Prim.Native.Nat.{ℕ, zero, suc, ◌<◌, ◌≤◌}
use native.Mathlib.Omega.{arith}
use native.Mathlib.Nat.{not-suc-le-zero}
use native.Mathlib.Decide.{dec_lt}
use Rattle.base.proofs.Bools.{split, clash, find-below, last-or-below, and_left, and_right, and_both, not_of_false, false_of_not}
use Rattle.ctl.specs.Paths.{Path, Quant, E, A, Paths, Until, Weak, So, Graph}
use Rattle.ctl.specs.Tables.{other, Table}
use Rattle.ctl.proofs.Paths.{path_inside, paths-iff}
use Rattle.ctl.proofs.Until.{until-table, away-path}

-- at each place p, or q there or before
abbrev pub Steady : (ℕ → Type 0) → (ℕ → Type 0) → (ℕ → ℕ) → Type 0
Steady P Q π = (i : ℕ) → P (π i) ⊎ ((j : ℕ) × (j ≤ i) × Q (π j))

-- not q, and neither p nor q: what weak until denies is `!q U (!p & !q)`
abbrev pub non : (ℕ → Bool) → ℕ → Bool
non q s = not (q s)

abbrev pub nor : (ℕ → Bool) → (ℕ → Bool) → ℕ → Bool
nor p q s = not (p s) && not (q s)

-- ---- one path

-- where it is steady it is weak, whatever p and q are
pub weak-of-steady : (P Q : ℕ → Type 0) (π : ℕ → ℕ) → Steady P Q π → Weak P Q π
weak-of-steady P Q π h (nu, ng) = ng (λ i. ⊎_elim (λ a. a) (λ w. absurd (never (suc w.0) w.0 (omega arith) w.2)) (h i))
  where
    never : (m j : ℕ) → j < m → Q (π j) → ⊥
    never zero j l a = not-suc-le-zero l
    never (suc m) j l a = nu (j, a, λ k b. ⊎_elim (λ x. x) (λ w. absurd (never m w.0 (omega arith) w.2)) (h k))

module _ (p q : ℕ → Bool) (π : ℕ → ℕ) where
  -- p at place i, or q at a place up to i, where not both fail
  steady-at : (i : ℕ) → ((p (π i) ≡ false) → ((j : ℕ) → j < suc i → q (π j) ≡ false) → ⊥) → (p (π i) ≡ true) ⊎ ((j : ℕ) × (j ≤ i) × (q (π j) ≡ true))
  steady-at i out = ⊎_elim inl (λ e. ⊎_elim (λ w. inr (w.0, omega arith, w.2)) (λ f. absurd (out e f)) (find-below (suc i) (λ j. q (π j)))) (split (p (π i)))

  pub steady-of-weak : Weak (So p) (So q) π → Steady (So p) (So q) π
  steady-of-weak h i = steady-at i (λ e f. h (no-until e f, λ a. clash (a i) e))
    where
      order : (j i : ℕ) → (j < suc i) ⊎ (i < j)
      order j i = elim (dec_lt i j) [ yes b ↦ inr b | no b ↦ inl (omega arith) ]

      no-until : p (π i) ≡ false → ((j : ℕ) → j < suc i → q (π j) ≡ false) → ¬ Until (So p) (So q) π
      no-until e f u = ⊎_elim (λ b. clash u.1 (f u.0 b)) (λ b. clash (u.2 i b) e) (order u.0 i)

  -- what is steady has no place where both fail before q
  steady-clash : Steady (So p) (So q) π → Until (So (non q)) (So (nor p q)) π → ⊥
  steady-clash h (i, a, b) =
      ⊎_elim (λ t. clash t (false_of_not (p (π i)) (and_left (not (p (π i))) (not (q (π i))) a)))
      (λ w. clash w.2 (false_of_not (q (π w.0)) (last-or-below i (λ j. not (q (π j)) ≡ true) (and_right (not (p (π i))) (not (q (π i))) a) b w.0 (omega arith))))
      (h i)

  -- what is steady, and has a place of q, is until: by the places before that one
  pub steady-until : Steady (So p) (So q) π → (m j : ℕ) → j < m → q (π j) ≡ true → Until (So p) (So q) π
  steady-until h zero j l a = absurd (not-suc-le-zero l)
  steady-until h (suc m) j l a =
      ⊎_elim (λ w. steady-until h m w.0 (omega arith) w.2)
      (λ f. (j, a, λ k b. ⊎_elim (λ t. t) (λ w. clash w.2 (f w.0 (omega arith))) (h k)))
      (find-below j (λ k. q (π k)))

-- ---- tables

-- the place at which weak until fails: neither p nor q there, and no q before
fails-at : (p q : ℕ → Bool) (π : ℕ → ℕ) (i : ℕ) → p (π i) ≡ false → ((j : ℕ) → j < suc i → q (π j) ≡ false) → (nor p q (π i) ≡ true) × ((j : ℕ) → j < i → non q (π j) ≡ true)
fails-at p q π i e f = (
  and_both (not (p (π i))) (not (q (π i))) (not_of_false (p (π i)) e) (not_of_false (q (π i)) (f i (omega arith))),
  λ j b. not_of_false (q (π j)) (f j (omega arith)),
)

module _ {n : ℕ} {step : ℕ → ℕ → Bool} (g : Graph n step) (p q z : ℕ → Bool) (s : ℕ) (l : s < n) where
  steady-table : (k : Quant) → Table (other k) n step (non q) (nor p q) z → (not (z s) ≡ true) ↔ Paths k step s (Steady (So p) (So q))
  steady-table A v = (there, back)
    where
      there : not (z s) ≡ true → Paths A step s (Steady (So p) (So q))
      there e π w i = steady-at p q π i λ a f.
          let x = fails-at p q π i a f in
          clash ((until-table g (non q) (nor p q) E z v s l).1 (π, w, (i, x.0, x.1))) (false_of_not (z s) e)

      back : Paths A step s (Steady (So p) (So q)) → not (z s) ≡ true
      back h = ⊎_elim (λ t. absurd (refute ((until-table g (non q) (nor p q) E z v s l).0 t))) (not_of_false (z s)) (split (z s))
        where
          refute : Paths E step s (Until (So (non q)) (So (nor p q))) → ⊥
          refute (π, w, u) = steady-clash p q π (h π w) u
  steady-table E v = (λ e. there (away-path g (non q) (nor p q) z v s l (false_of_not (z s) e)), back)
    where
      there : (π : ℕ → ℕ) × Path step s π × ((i : ℕ) → ((j : ℕ) → j < i → non q (π j) ≡ true) → z (π i) ≡ false) → Paths E step s (Steady (So p) (So q))
      there (π, w, out) = (π, w, λ i. steady-at p q π i λ a f. let x = fails-at p q π i a f in clash (v.here (π i) (path_inside g s l π w i) x.0) (out i x.1))

      back : Paths E step s (Steady (So p) (So q)) → not (z s) ≡ true
      back (π, w, h) = ⊎_elim (λ t. absurd (steady-clash p q π h ((until-table g (non q) (nor p q) A z v s l).0 t π w))) (not_of_false (z s)) (split (z s))

  pub weak-table : (k : Quant) → Table (other k) n step (non q) (nor p q) z → (not (z s) ≡ true) ↔ Paths k step s (Weak (So p) (So q))
  weak-table k v = Iff.trans (steady-table k v) (paths-iff step k _ _ s (λ π w. (weak-of-steady (So p) (So q) π, steady-of-weak p q π)))
