-- Numbers that are right step by step are those of the shortest ways. Assumes nothing.
use mathlib.Core.Path.{◌≡◌, refl, sym, ◌∙◌, ap}
use mathlib.Core.Bool.{Bool, true}
use mathlib.Core.List.{List, [], ◌∷◌}
use mathlib.Core.Logic.{◌↔◌, ⊎_elim}
use Prim.Native.Nat.{ℕ, zero, suc, ◌+◌, ◌≤◌, ◌<◌}
use native.Mathlib.Omega.{arith}
use lib.ListN.{length}
use Rattle.base.proofs.Bools.{split}
use Rattle.ctl.specs.Paths.{E, Paths, Until, So, Graph}
use Rattle.labelling.specs.declared.Operator.TheVariants as op
use Rattle.lassos.specs.Lassos.{place, last, any, Way, Reaches, Shortest}
use Rattle.lassos.specs.Distances.{Distances}
use Rattle.lassos.proofs.Ways.{way-inside, way-one}
use Rattle.lassos.proofs.Sound.{bears-some}
use Rattle.lassos.proofs.Complete.{until-way}

-- ---- a way with one place more in front

pub way-cons : (step : ℕ → ℕ → Bool) (s t : ℕ) (ls : List ℕ) → step s t ≡ true → Way step t ls → Way step s (s ∷ ls)
way-cons step s t ls h w = record { some = omega arith; starts = refl; steps = goes }
  where
    goes : (i : ℕ) → suc i < length (s ∷ ls) → step (place (s ∷ ls) i) (place ls i) ≡ true
    goes zero b = rw w.starts h
    goes (suc i) b = w.steps i (omega arith)

reaches-cons : (X Y : ℕ → Type 0) (s : ℕ) (ls : List ℕ) → 0 < length ls → X s → Reaches X Y ls → Reaches X Y (s ∷ ls)
reaches-cons X Y s ls k x (y, b) = (rw e y, before)
  where
    e : last (s ∷ ls) ≡ suc (last ls)
    e = omega arith

    before : (i : ℕ) → i < last (s ∷ ls) → X (place (s ∷ ls) i)
    before zero c = x
    before (suc i) c = b i (omega arith)

module _ {n : ℕ} {step : ℕ → ℕ → Bool} (g : Graph n step) (p q z : ℕ → Bool) (far : ℕ → ℕ) (r : Distances n step p q z far) where
  -- ---- by steps to lower numbers there is a way, as long as the number says

  -- a way of k + 1 places
  abbrev pub WayOf : ℕ → ℕ → Type 0
  WayOf k s = (ls : List ℕ) × (length ls ≡ suc k) × Way step s ls × Reaches (So p) (So q) ls

  stop : (s : ℕ) → q s ≡ true → WayOf 0 s
  stop s e = (s ∷ [], refl, way-one step s, (e, λ i b. absurd (omega arith)))

  more : (k s t : ℕ) → p s ≡ true → step s t ≡ true → WayOf k t → WayOf (suc k) s
  more k s t x h (ls, e, w, u) = (s ∷ ls, ap suc e, way-cons step s t ls h w, reaches-cons (So p) (So q) s ls w.some x u)

  pub numbered : (k s : ℕ) → s < n → z s ≡ true → far s ≡ k → WayOf k s
  numbered zero s l e h = ⊎_elim (stop s) (λ f. let o = r.on s l e f in absurd (omega (arith, o.4))) (split (q s))
  numbered (suc k) s l e h =
      ⊎_elim (λ t. let o = r.here s l t in absurd (omega (arith, o.1)))
      (λ f. let o = r.on s l e f in more k s o.0 o.1 o.2 (numbered k o.0 (g.inside s o.0 l o.2) o.3 (omega (arith, o.4)))) (split (q s))

  -- ---- no way is shorter

  module _ (s : ℕ) (l : s < n) (ks : List ℕ) (w : Way step s ks) (u : Reaches (So p) (So q) ks) where
    inside : (i : ℕ) → i < length ks → place ks i < n
    inside = way-inside g s l ks w

    -- m places before the last, the number is at most m
    most : (m i : ℕ) → i + m ≡ last ks → (z (place ks i) ≡ true) × (far (place ks i) ≤ m)
    most zero i e =
        let a : i ≡ last ks = omega arith in
        let h = r.here (place ks i) (inside i (omega (arith, w.some))) (rw a u.0) in
        (h.0, omega (arith, h.1))
    most (suc m) i e =
        let h = most m (suc i) (omega arith) in
        let b = r.back (place ks i) (place ks (suc i)) (inside i (omega arith)) (u.1 i (omega arith)) (w.steps i (omega arith)) h.0 in
        (b.0, omega (arith, h.1, b.1))

  pub shortest : (s : ℕ) → s < n → (ls : List ℕ) → length ls ≤ suc (far s) → Shortest step s (Reaches (So p) (So q)) ls
  shortest s l ls b ks w u =
      let h = most s l ks w u (last ks) 0 (omega arith) in
      let e : far (place ks 0) ≡ far s = ap far w.starts in
      omega (arith, w.some, h.1)

  -- z is where some path has it, and no number is as large as n
  pub number-iff : (s : ℕ) → s < n → (z s ≡ true) ↔ Paths E step s (Until (So p) (So q))
  number-iff s l = (λ e. let m = numbered (far s) s l e refl in bears-some g s l op.Until (So p) (So q) any m.0 m.2 m.3, back)
    where
      back : Paths E step s (Until (So p) (So q)) → z s ≡ true
      back h =
          let m = until-way g s l (So p) (So q) h in
          sym (ap z m.2.starts) ∙ (most s l m.0 m.2 m.3 (last m.0) 0 (omega arith)).0

  pub number-below : (s : ℕ) → s < n → z s ≡ true → far s < n
  number-below s l e =
      let m = numbered (far s) s l e refl in
      let u = until-way g s l (So p) (So q) ((number-iff s l).0 e) in
      omega (arith, m.1, u.1, shortest s l m.0 (omega (arith, m.1)) u.0 u.2 u.3)
