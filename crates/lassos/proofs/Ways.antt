-- Ways place by place: within the graph, one place more behind, one less. Assumes nothing.
use mathlib.Core.Path.{◌≡◌, refl, ◌∙◌, ap}
use mathlib.Core.Bool.{Bool, true}
use mathlib.Core.List.{List, [], ◌∷◌, ◌++◌}
use Prim.Native.Nat.{ℕ, zero, suc, ◌<◌}
use native.Mathlib.Omega.{arith}
use native.Mathlib.Decide.{dec_lt}
use lib.ListN.{length, length-append, get_or-append}
use lib.Seq.{get_or-append_seam}
use Rattle.ctl.specs.Paths.{Graph}
use Rattle.lassos.specs.Lassos.{place, last, Way, Each}

-- the places of a way from a place of the graph are places of it
pub way-inside : {n : ℕ} {step : ℕ → ℕ → Bool} → Graph n step → (s : ℕ) → s < n → (ls : List ℕ) → Way step s ls → (i : ℕ) → i < length ls → place ls i < n
way-inside g s l ls w zero b = rw w.starts l
way-inside g s l ls w (suc i) b = g.inside (place ls i) (place ls (suc i)) (way-inside g s l ls w i (omega arith)) (w.steps i b)

-- ---- a list with x behind

module _ (ls : List ℕ) (x : ℕ) where
  pub more-length : length (ls ++ x ∷ []) ≡ suc (length ls)
  more-length = let e = length-append ls (x ∷ []) in omega arith

  pub more-front : (i : ℕ) → i < length ls → place (ls ++ x ∷ []) i ≡ place ls i
  more-front i b = get_or-append ls (x ∷ []) 0 i b

  pub more-end : place (ls ++ x ∷ []) (length ls) ≡ x
  more-end = get_or-append_seam ls x [] 0

  pub more-last : last (ls ++ x ∷ []) ≡ length ls
  more-last = omega (arith, more-length)

  -- what is true at each position of the list and of x is true at each position
  pub more-each : (P : ℕ → ℕ → Type 0) → ((i : ℕ) → i < length ls → P i (place ls i)) → P (length ls) x → (i : ℕ) → i < length (ls ++ x ∷ []) → P i (place (ls ++ x ∷ []) i)
  more-each P f y i b = go (dec_lt i (length ls))
    where
      go : Dec (i < length ls) → P i (place (ls ++ x ∷ []) i)
      go (yes c) = rw (more-front i c) (f i c)
      go (no c) = let d : i ≡ length ls = omega (arith, more-length) in rw (d, more-end) y

  module _ (step : ℕ → ℕ → Bool) (s : ℕ) (w : Way step s (ls ++ x ∷ [])) where
    pub way-front : 0 < length ls → Way step s ls
    way-front k = record { some = k; starts = rw (more-front 0 k) at w.starts; steps = λ i b. rw (more-front i (omega arith), more-front (suc i) b) at (w.steps i (omega (arith, more-length))) }

    pub way-last : 0 < length ls → step (place ls (last ls)) x ≡ true
    way-last k =
        let d : suc (last ls) ≡ length ls = omega arith in
        rw (more-front (last ls) (omega arith), d, more-end) at (w.steps (last ls) (omega (arith, more-length)))

-- a way of one place
pub way-one : (step : ℕ → ℕ → Bool) (s : ℕ) → Way step s (s ∷ [])
way-one step s = record { some = omega arith; starts = refl; steps = λ i b. absurd (omega arith) }

-- a way of one step more
pub way-more : (step : ℕ → ℕ → Bool) (s : ℕ) (ls : List ℕ) (x y : ℕ) → Way step s (ls ++ x ∷ []) → step x y ≡ true → Way step s ((ls ++ x ∷ []) ++ y ∷ [])
way-more step s ls x y w h = record {
  some = omega (arith, more-length (ls ++ x ∷ []) y);
  starts = more-front (ls ++ x ∷ []) y 0 w.some ∙ w.starts;
  steps = λ i b. goes i b (dec_lt (suc i) (length (ls ++ x ∷ [])));
}
  where
    goes : (i : ℕ) → suc i < length ((ls ++ x ∷ []) ++ y ∷ []) → Dec (suc i < length (ls ++ x ∷ [])) → step (place ((ls ++ x ∷ []) ++ y ∷ []) i) (place ((ls ++ x ∷ []) ++ y ∷ []) (suc i)) ≡ true
    goes i b (yes c) = rw (more-front (ls ++ x ∷ []) y i (omega arith), more-front (ls ++ x ∷ []) y (suc i) c) (w.steps i c)
    goes i b (no c) =
        let d : i ≡ length ls = omega (arith, more-length (ls ++ x ∷ []) y, more-length ls x) in
        let e : suc (length ls) ≡ length (ls ++ x ∷ []) = omega (arith, more-length ls x) in
        rw (d, more-front (ls ++ x ∷ []) y (length ls) (omega (arith, more-length ls x)), more-end ls x, e, more-end (ls ++ x ∷ []) y) h
