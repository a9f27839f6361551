-- Paths of a finite graph: their places, their first step, how they are made and prolonged, and what may be said of them in other words.
-- Assumes nothing.
use mathlib.Core.Path.{◌≡◌, refl, sym, ◌∙◌}
use mathlib.Core.Bool.{Bool, true, false}
use mathlib.Core.Logic.{◌⊎◌, ◌↔◌, ⊎_elim}
use Prim.Native.Nat.{ℕ, zero, suc, ◌<◌, ◌≤◌, suc-le-suc}
use native.Mathlib.Omega.{arith}
use native.Mathlib.Nat.{le_of_suc-le-suc}
use Rattle.base.proofs.Bools.{split, clash}
use Rattle.ctl.specs.Paths.{Path, Quant, E, A, Paths, Next, Finally, Globally, Until, Weak, So, Graph}
use Rattle.ctl.specs.Tables.{Onto}

-- ---- the places of a path

module _ {n : ℕ} {step : ℕ → ℕ → Bool} (g : Graph n step) where
  pub path_inside : (s : ℕ) → s < n → (π : ℕ → ℕ) → Path step s π → (i : ℕ) → π i < n
  path_inside s l π w zero = rw w.0 l
  path_inside s l π w (suc i) = g.inside (π i) (π (suc i)) (path_inside s l π w i) (w.1 i)

module _ (step : ℕ → ℕ → Bool) (s : ℕ) (π : ℕ → ℕ) (w : Path step s π) where
  pub path-first : step s (π 1) ≡ true
  path-first = rw w.0 at (w.1 0)

  -- a path without its first place
  pub path-tail : Path step (π 1) (λ i. π (suc i))
  path-tail = (refl, λ i. w.1 (suc i))

-- a path with one place more in front
unfoldable pub cons : ℕ → (ℕ → ℕ) → ℕ → ℕ
cons s π zero = s
cons s π (suc i) = π i

pub path-cons : (step : ℕ → ℕ → Bool) (s t : ℕ) (π : ℕ → ℕ) → step s t ≡ true → Path step t π → Path step s (cons s π)
unfolding cons
path-cons step s t π h w = (refl, go)
  where
    go : (i : ℕ) → step (cons s π i) (cons s π (suc i)) ≡ true
    go zero = rw w.0 h
    go (suc i) = w.1 i

-- ---- a path made by choosing from each place a next one, in the relation R to it

module _ {n : ℕ} (R : ℕ → ℕ → Type 0) (choose : (s : ℕ) → s < n → (t : ℕ) × (t < n) × R s t) (s : ℕ) (l : s < n) where
  run : ℕ → (t : ℕ) × (t < n)
  run zero = (s, l)
  run (suc i) = let r = run i in let c = choose r.0 r.1 in (c.0, c.1)

  pub path-made : (π : ℕ → ℕ) × (π 0 ≡ s) × ((i : ℕ) → R (π i) (π (suc i)))
  unfolding run
  path-made = (λ i. (run i).0, refl, λ i. (choose (run i).0 (run i).1).2)

module _ {n : ℕ} {step : ℕ → ℕ → Bool} (g : Graph n step) where
  -- from each place there is a path
  pub some-path : (s : ℕ) → s < n → (π : ℕ → ℕ) × Path step s π
  some-path s l =
      let m = path-made (λ t u. step t u ≡ true) (λ t b. let o = g.onward t b in (o.0, g.inside t o.0 b o.1, o.1)) s l in
      (m.0, (m.1, m.2))

  -- what goes k steps goes on: a path with the same first k + 1 places
  pub path-prolong : (k : ℕ) (ρ : ℕ → ℕ) → ρ 0 < n → ((i : ℕ) → i < k → step (ρ i) (ρ (suc i)) ≡ true) → (π : ℕ → ℕ) × Path step (ρ 0) π × ((i : ℕ) → i ≤ k → π i ≡ ρ i)
  unfolding cons
  path-prolong zero ρ l h =
      let m = some-path (ρ 0) l in
      (m.0, m.1, λ i b. let z : i ≡ 0 = omega arith in rw z m.1.0)
  path-prolong (suc k) ρ l h =
      extend (path-prolong k (λ i. ρ (suc i)) (g.inside (ρ 0) (ρ 1) l (h 0 (omega arith))) (λ i b. h (suc i) (suc-le-suc b)))
    where
      extend : (π : ℕ → ℕ) × Path step (ρ 1) π × ((i : ℕ) → i ≤ k → π i ≡ ρ (suc i)) → (π : ℕ → ℕ) × Path step (ρ 0) π × ((i : ℕ) → i ≤ suc k → π i ≡ ρ i)
      extend (π, w, e) = (cons (ρ 0) π, path-cons step (ρ 0) (ρ 1) π (h 0 (omega arith)) w, agree)
        where
          agree : (i : ℕ) → i ≤ suc k → cons (ρ 0) π i ≡ ρ i
          agree zero b = refl
          agree (suc i) b = e i (le_of_suc-le-suc b)

-- ---- the same said in other words

pub paths-map : (step : ℕ → ℕ → Bool) (k : Quant) (Φ Ψ : (ℕ → ℕ) → Type 0) (s : ℕ) → ((π : ℕ → ℕ) → Path step s π → Φ π → Ψ π) → Paths k step s Φ → Paths k step s Ψ
paths-map step E Φ Ψ s f (π, w, x) = (π, w, f π w x)
paths-map step A Φ Ψ s f h = λ π w. f π w (h π w)

pub paths-iff : (step : ℕ → ℕ → Bool) (k : Quant) (Φ Ψ : (ℕ → ℕ) → Type 0) (s : ℕ) → ((π : ℕ → ℕ) → Path step s π → Φ π ↔ Ψ π) → Paths k step s Φ ↔ Paths k step s Ψ
paths-iff step k Φ Ψ s f = (paths-map step k Φ Ψ s (λ π w. (f π w).0), paths-map step k Ψ Φ s (λ π w. (f π w).1))

pub until-map : (P Q P' Q' : ℕ → Type 0) (π : ℕ → ℕ) → ((i : ℕ) → P (π i) → P' (π i)) → ((i : ℕ) → Q (π i) → Q' (π i)) → Until P Q π → Until P' Q' π
until-map P Q P' Q' π f g u = (u.0, g u.0 u.1, λ j b. f j (u.2 j b))

pub weak-map : (P Q P' Q' : ℕ → Type 0) (π : ℕ → ℕ) → ((i : ℕ) → P (π i) → P' (π i)) → ((i : ℕ) → Q (π i) → Q' (π i)) → Weak P Q π → Weak P' Q' π
weak-map P Q P' Q' π f g h (nu, ng) = h (λ u. nu (until-map P Q P' Q' π f g u), λ a. ng (λ i. f i (a i)))

module _ {n : ℕ} {step : ℕ → ℕ → Bool} (g : Graph n step) where
  -- X by the steps of a place
  pub next-iff : (k : Quant) (P : ℕ → Type 0) (s : ℕ) → s < n → Onto k step P s ↔ Paths k step s (Next P)
  unfolding cons
  next-iff E P s l = (there, back)
    where
      there : Onto E step P s → Paths E step s (Next P)
      there (t, h, x) = go (some-path g t (g.inside s t l h))
        where
          go : (π : ℕ → ℕ) × Path step t π → Paths E step s (Next P)
          go (π, w) = (cons s π, path-cons step s t π h w, rw w.0 x)

      back : Paths E step s (Next P) → Onto E step P s
      back (π, w, x) = (π 1, path-first step s π w, x)
  next-iff A P s l = (λ h π w. h (π 1) (path-first step s π w), back)
    where
      back : Paths A step s (Next P) → Onto A step P s
      back h t e = go (some-path g t (g.inside s t l e))
        where
          go : (π : ℕ → ℕ) × Path step t π → P t
          go (π, w) = rw w.0 at (h (cons s π) (path-cons step s t π e w))

  -- F as U, where p holds at all places
  pub finally-iff : (k : Quant) (p : ℕ → Bool) (Q : ℕ → Type 0) → ((t : ℕ) → t < n → p t ≡ true) → (s : ℕ) → s < n → Paths k step s (Until (So p) Q) ↔ Paths k step s (Finally Q)
  finally-iff k p Q all s l =
      paths-iff step k _ _ s (λ π w. (λ u. (u.0, u.1), λ u. (u.0, u.1, λ j b. all (π j) (path_inside g s l π w j))))

  -- G as W, where q holds at no place
  pub globally-iff : (k : Quant) (p q : ℕ → Bool) → ((t : ℕ) → t < n → q t ≡ false) → (s : ℕ) → s < n → Paths k step s (Weak (So p) (So q)) ↔ Paths k step s (Globally (So p))
  globally-iff k p q none s l = paths-iff step k _ _ s (λ π w. (there π w, λ h x. x.1 h))
    where
      there : (π : ℕ → ℕ) → Path step s π → Weak (So p) (So q) π → Globally (So p) π
      there π w h i =
          ⊎_elim (λ t. t)
          (λ f. absurd (h ((λ u. clash u.1 (none (π u.0) (path_inside g s l π w u.0))), λ a. clash (a i) f)))
          (split (p (π i)))

-- tests of steps that agree below n have the same paths
module _ {n : ℕ} {step : ℕ → ℕ → Bool} (g : Graph n step) (step' : ℕ → ℕ → Bool) (same : (s t : ℕ) → s < n → step s t ≡ step' s t) where
  pub graph_same : Graph n step'
  graph_same = record {
    inside = λ s t l e. g.inside s t l (same s t l ∙ e);
    onward = λ s l. let o = g.onward s l in (o.0, sym (same s o.0 l) ∙ o.1);
  }

  path-there : (s : ℕ) → s < n → (π : ℕ → ℕ) → Path step s π → Path step' s π
  path-there s l π w = (w.0, λ i. sym (same (π i) (π (suc i)) (path_inside g s l π w i)) ∙ w.1 i)

  path-back : (s : ℕ) → s < n → (π : ℕ → ℕ) → Path step' s π → Path step s π
  path-back s l π w = (w.0, λ i. same (π i) (π (suc i)) (path_inside graph_same s l π w i) ∙ w.1 i)

  pub paths-same : (k : Quant) (Φ : (ℕ → ℕ) → Type 0) (s : ℕ) → s < n → Paths k step s Φ ↔ Paths k step' s Φ
  paths-same E Φ s l = (λ w. (w.0, path-there s l w.0 w.1, w.2), λ w. (w.0, path-back s l w.0 w.1, w.2))
  paths-same A Φ s l = (λ h π w. h π (path-back s l π w), λ h π w. h π (path-there s l π w))
