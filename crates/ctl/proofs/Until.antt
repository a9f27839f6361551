-- A table of until is until by paths: a set that is sound and closed has exactly the places from which some path, or all paths, have
-- q at some place and p before. Assumes nothing.
use mathlib.Core.Path.{◌≡◌}
use mathlib.Core.Bool.{Bool, true, false, not, ◌||◌}
use mathlib.Core.Logic.{◌⊎◌, inl, inr, ◌↔◌, ⊎_elim}
use Prim.Native.Nat.{ℕ, zero, suc, ◌<◌, suc-le-suc}
use native.Mathlib.Omega.{arith}
use native.Mathlib.Nat.{not-suc-le-zero, le_of_suc-le-suc}
use Rattle.base.proofs.Bools.{split, clash, imply-use, imply-fail, search-below}
use Rattle.ctl.specs.Paths.{Path, Quant, E, A, Paths, Until, So, Graph}
use Rattle.ctl.specs.Tables.{Some, All, now, later, Table}
use Rattle.ctl.proofs.Paths.{path_inside, path-first, path-tail, cons, path-cons, path-made, some-path}

module _ {n : ℕ} {step : ℕ → ℕ → Bool} (g : Graph n step) (p q : ℕ → Bool) where
  -- ---- some path

  some-paths : {s : ℕ} → s < n → Some step p q s → Paths E step s (Until (So p) (So q))
  unfolding cons
  some-paths {s} l (now h) =
      let m = some-path g s l in
      (m.0, m.1, (0, rw m.1.0 h, λ j b. absurd (not-suc-le-zero b)))
  some-paths {s} l (later {t = t} h e r) = extend (some-paths (g.inside s t l e) r)
    where
      extend : Paths E step t (Until (So p) (So q)) → Paths E step s (Until (So p) (So q))
      extend (π, w, (i, a, b)) = (cons s π, path-cons step s t π e w, (suc i, a, before))
        where
          before : (j : ℕ) → j < suc i → p (cons s π j) ≡ true
          before zero k = h
          before (suc j) k = b j (le_of_suc-le-suc k)

  -- the table holds at the start of a path on which p holds until q does: by the number of places before
  some_back : (z : ℕ → Bool) → Table E n step p q z → (i s : ℕ) → s < n → (π : ℕ → ℕ) → Path step s π → q (π i) ≡ true → ((j : ℕ) → j < i → p (π j) ≡ true) → z s ≡ true
  some_back z v zero s l π w h b = v.here s l (rw w.0 at h)
  some_back z v (suc i) s l π w h b =
      v.back s l (rw w.0 at (b 0 (omega arith)))
      (π 1, path-first step s π w, some_back z v i (π 1) (path_inside g s l π w 1) (λ k. π (suc k)) (path-tail step s π w) h (λ j k. b (suc j) (suc-le-suc k)))

  -- ---- all paths

  all-paths : {s : ℕ} → All step p q s → Paths A step s (Until (So p) (So q))
  all-paths {s} (now h) π w = (0, rw w.0 h, λ j b. absurd (not-suc-le-zero b))
  all-paths {s} (later h r) π w = extend (all-paths (r (π 1) (path-first step s π w)) (λ i. π (suc i)) (path-tail step s π w))
    where
      extend : Until (So p) (So q) (λ i. π (suc i)) → Until (So p) (So q) π
      extend (i, a, b) = (suc i, a, before)
        where
          before : (j : ℕ) → j < suc i → p (π j) ≡ true
          before zero k = rw w.0 h
          before (suc j) k = b j (le_of_suc-le-suc k)

  module _ (z : ℕ → Bool) (v : Table A n step p q z) where
    -- a step that leads out of the table, where s is outside and p holds there
    abbrev Away : ℕ → ℕ → Type 0
    Away s t = (step s t ≡ true) × (p s ≡ true → z s ≡ false → z t ≡ false)

    away : (s : ℕ) → s < n → (t : ℕ) × (t < n) × Away s t
    away s l = go (search-below n (λ t. not (step s t) || z t))
      where
        go : ((t : ℕ) → t < n → (not (step s t) || z t) ≡ true) ⊎ ((t : ℕ) × (t < n) × ((not (step s t) || z t) ≡ false)) → (t : ℕ) × (t < n) × Away s t
        go (inl h) =
            let o = g.onward s l in
            let closed : (t : ℕ) → step s t ≡ true → z t ≡ true = λ t b. imply-use (step s t) (z t) (h t (g.inside s t l b)) b in
            (o.0, g.inside s o.0 l o.1, (o.1, λ a e. clash (v.back s l a closed) e))
        go (inr w) = let f = imply-fail (step s w.0) (z w.0) w.2 in (w.0, w.1, (f.0, λ a e. f.1))

    -- from a place outside the table, a path that stays outside as long as p holds
    pub away-path : (s : ℕ) → s < n → z s ≡ false → (π : ℕ → ℕ) × Path step s π × ((i : ℕ) → ((j : ℕ) → j < i → p (π j) ≡ true) → z (π i) ≡ false)
    away-path s l e = (m.0, (m.1, λ i. (m.2 i).0), out)
      where
        m : (π : ℕ → ℕ) × (π 0 ≡ s) × ((i : ℕ) → Away (π i) (π (suc i)))
        m = path-made Away away s l

        out : (i : ℕ) → ((j : ℕ) → j < i → p (m.0 j) ≡ true) → z (m.0 i) ≡ false
        out zero h = rw m.1 e
        out (suc i) h = (m.2 i).1 (h i (omega arith)) (out i (λ j k. h j (omega arith)))

    all_back : (s : ℕ) → s < n → Paths A step s (Until (So p) (So q)) → z s ≡ true
    all_back s l h = ⊎_elim (λ t. t) (λ e. refute (away-path s l e)) (split (z s))
      where
        refute : (π : ℕ → ℕ) × Path step s π × ((i : ℕ) → ((j : ℕ) → j < i → p (π j) ≡ true) → z (π i) ≡ false) → z s ≡ true
        refute (π, w, out) = let u = h π w in clash (v.here (π u.0) (path_inside g s l π w u.0) u.1) (out u.0 u.2)

  -- ---- both

  pub until-table : (k : Quant) (z : ℕ → Bool) → Table k n step p q z → (s : ℕ) → s < n → (z s ≡ true) ↔ Paths k step s (Until (So p) (So q))
  until-table E z v s l = (λ e. some-paths l (v.sound s l e), λ w. some_back z v w.2.0 s l w.0 w.1 w.2.1 w.2.2)
  until-table A z v s l = (λ e. all-paths (v.sound s l e), all_back z v s l)
