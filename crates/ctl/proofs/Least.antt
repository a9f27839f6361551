-- The table of until exists and is computed: the least set that is closed, in at most n rounds, each but the last of which adds a place.
-- Assumes nothing.
use mathlib.Core.Path.{◌≡◌, refl, sym, ◌∙◌}
use mathlib.Core.Bool.{Bool, true, false, not, ◌&&◌, ◌||◌}
use mathlib.Core.List.{List, [], ◌∷◌}
use mathlib.Core.Logic.{◌⊎◌, ◌↔◌, ⊎_elim}
use Prim.Native.Nat.{ℕ, zero, suc, ◌+◌, ◌<◌, ◌≤◌}
use native.Mathlib.Omega.{arith}
use native.Mathlib.Nat.{not-suc-le-zero, le_of_suc-le-suc}
use lib.ListN.{get_or}
use Rattle.bits.specs.Row.{count_below}
use Rattle.base.proofs.Bools.{clash, and_left, and_right, and_both, or_case, or_left, or_right, imply-use, imply-make, imply-fail, last-or-below, search-below}
use Rattle.bits.proofs.Counts.{count_less, count-full}
use Rattle.ctl.specs.Paths.{Quant, E, A, So, Graph}
use Rattle.ctl.specs.Tables.{Onto, Reach, Table}
use Rattle.ctl.proofs.Reach.{reach_now, reach-later, onto-map}

-- ---- tests at the numbers below n

-- at every number; at some number
unfoldable pub every : ℕ → (ℕ → Bool) → Bool
every zero f = true
every (suc n) f = f n && every n f

unfoldable pub any : ℕ → (ℕ → Bool) → Bool
any zero f = false
any (suc n) f = f n || any n f

pub every-at : (n : ℕ) (f : ℕ → Bool) → every n f ≡ true → (k : ℕ) → k < n → f k ≡ true
unfolding every
every-at zero f e = λ k l. absurd (not-suc-le-zero l)
every-at (suc n) f e = last-or-below n (λ m. f m ≡ true) (and_left (f n) (every n f) e) (every-at n f (and_right (f n) (every n f) e))

pub every-make : (n : ℕ) (f : ℕ → Bool) → ((k : ℕ) → k < n → f k ≡ true) → every n f ≡ true
unfolding every
every-make zero f h = refl
every-make (suc n) f h = and_both (f n) (every n f) (h n (omega arith)) (every-make n f (λ k l. h k (omega arith)))

pub any_at : (n : ℕ) (f : ℕ → Bool) → any n f ≡ true → (k : ℕ) × (k < n) × (f k ≡ true)
unfolding any
any_at zero f e = clash e refl
any_at (suc n) f e = ⊎_elim (λ t. (n, omega arith, t)) (λ t. let w = any_at n f t in (w.0, omega arith, w.2)) (or_case (f n) (any n f) e)

pub any-make : (n : ℕ) (f : ℕ → Bool) (k : ℕ) → k < n → f k ≡ true → any n f ≡ true
unfolding any
any-make zero f = λ k l. absurd (not-suc-le-zero l)
any-make (suc n) f =
    last-or-below n (λ m. f m ≡ true → (f n || any n f) ≡ true) (or_left (f n) (any n f)) (λ m b t. or_right (f n) (any n f) (any-make n f m b t))

-- the tests as a list, and the test at a place; false past its end
unfoldable pub tests : ℕ → (ℕ → Bool) → List Bool
tests zero f = []
tests (suc n) f = f zero ∷ tests n (λ k. f (suc k))

abbrev pub test : List Bool → ℕ → Bool
test l k = get_or l k false

pub tests-at : (n : ℕ) (f : ℕ → Bool) (k : ℕ) → k < n → test (tests n f) k ≡ f k
unfolding tests
tests-at zero f k l = absurd (not-suc-le-zero l)
tests-at (suc n) f zero l = refl
tests-at (suc n) f (suc k) l = tests-at n (λ m. f (suc m)) k (le_of_suc-le-suc l)

-- ---- the least set that a rule is closed under

module _ (n : ℕ) (rule : (ℕ → Bool) → ℕ → Bool) where
  unfoldable pub grow : List Bool → List Bool
  grow t = tests n (λ s. test t s || rule (test t) s)

  unfoldable pub done : List Bool → Bool
  done t = every n (λ s. not (rule (test t) s) || test t s)

  -- at most k more rounds from t, where b says whether t is closed
  unfoldable pub rounds : ℕ → Bool → List Bool → List Bool
  rounds zero b t = t
  rounds (suc k) true t = t
  rounds (suc k) false t = let u = grow t in rounds k (done u) u

  unfoldable pub least : List Bool
  unfolding rounds
  least = rounds n (done []) []

  Closed : List Bool → Type 0
  Closed t = (s : ℕ) → s < n → rule (test t) s ≡ true → test t s ≡ true

  done-closed : (t : List Bool) → done t ≡ true → Closed t
  unfolding done Closed
  done-closed t e s l = imply-use (rule (test t) s) (test t s) (every-at n (λ s. not (rule (test t) s) || test t s) e s l)

  -- a round that is not the last adds a place
  grow-more : (t : List Bool) → done t ≡ false → count_below (test t) n < count_below (test (grow t)) n
  unfolding done grow
  grow-more t e = ⊎_elim (λ h. clash (every-make n f h) e) fresh (search-below n f)
    where
      f : ℕ → Bool
      f s = not (rule (test t) s) || test t s

      u : ℕ → Bool
      u s = test t s || rule (test t) s

      fresh : (s : ℕ) × (s < n) × (f s ≡ false) → count_below (test t) n < count_below (test (tests n u)) n
      fresh (s, l, h) =
          let w = imply-fail (rule (test t) s) (test t s) h in
          count_less (test t) (test (tests n u)) n (λ k b x. tests-at n u k b ∙ or_left (test t k) (rule (test t) k) x)
          s l w.1 (tests-at n u s l ∙ or_right (test t s) (rule (test t) s) w.0)

  rounds-closed : (k : ℕ) (b : Bool) (t : List Bool) → done t ≡ b → n ≤ count_below (test t) n + k → Closed (rounds k b t)
  unfolding rounds Closed
  rounds-closed zero b t e h = λ s l r. count-full (test t) n (omega arith) s l
  rounds-closed (suc k) true t e h = done-closed t e
  rounds-closed (suc k) false t e h = rounds-closed k (done (grow t)) (grow t) refl (omega (arith, grow-more t e))

  pub least-closed : (s : ℕ) → s < n → rule (test least) s ≡ true → test least s ≡ true
  unfolding least Closed
  least-closed = rounds-closed n (done []) [] refl (omega arith)

  -- what the rule keeps holds at every place of the set
  module _ (I : ℕ → Type 0) (keep : (t : List Bool) → ((s : ℕ) → s < n → test t s ≡ true → I s) → (s : ℕ) → s < n → rule (test t) s ≡ true → I s) where
    rounds-sound : (k : ℕ) (b : Bool) (t : List Bool) → ((s : ℕ) → s < n → test t s ≡ true → I s) → (s : ℕ) → s < n → test (rounds k b t) s ≡ true → I s
    unfolding rounds grow
    rounds-sound zero b t h = h
    rounds-sound (suc k) true t h = h
    rounds-sound (suc k) false t h = rounds-sound k (done (grow t)) (grow t) more
      where
        more : (s : ℕ) → s < n → test (grow t) s ≡ true → I s
        more s l e =
            ⊎_elim (h s l) (keep t h s l)
            (or_case (test t s) (rule (test t) s) (sym (tests-at n (λ s. test t s || rule (test t) s) s l) ∙ e))

    pub least-sound : (s : ℕ) → s < n → test least s ≡ true → I s
    unfolding least
    least-sound = rounds-sound n (done []) [] (λ s l e. clash e refl)

-- ---- until

module _ {n : ℕ} {step : ℕ → ℕ → Bool} (g : Graph n step) where
  -- whether some step of s leads into z; whether all do
  unfoldable pub onto : Quant → (ℕ → Bool) → ℕ → Bool
  onto E z s = any n (λ t. step s t && z t)
  onto A z s = every n (λ t. not (step s t) || z t)

  pub onto-iff : (k : Quant) (z : ℕ → Bool) (s : ℕ) → s < n → (onto k z s ≡ true) ↔ Onto k step (So z) s
  unfolding onto
  onto-iff E z s l = (there, λ w. any-make n (λ t. step s t && z t) w.0 (g.inside s w.0 l w.1) (and_both (step s w.0) (z w.0) w.1 w.2))
    where
      there : any n (λ t. step s t && z t) ≡ true → Onto E step (So z) s
      there e = let w = any_at n (λ t. step s t && z t) e in (w.0, and_left (step s w.0) (z w.0) w.2, and_right (step s w.0) (z w.0) w.2)
  onto-iff A z s l = (there, λ h. every-make n (λ t. not (step s t) || z t) (λ t b. imply-make (step s t) (z t) (h t)))
    where
      there : every n (λ t. not (step s t) || z t) ≡ true → Onto A step (So z) s
      there e t h = imply-use (step s t) (z t) (every-at n (λ t. not (step s t) || z t) e t (g.inside s t l h)) h

  module _ (k : Quant) (p q : ℕ → Bool) where
    unfoldable pub until_rule : (ℕ → Bool) → ℕ → Bool
    until_rule z s = q s || (p s && onto k z s)

    pub until-least : Table k n step p q (test (least n until_rule))
    unfolding until_rule
    until-least = record {
      sound = least-sound n until_rule (Reach k step p q) λ t h s l e.
          ⊎_elim (reach_now step p q k s)
          (λ x.
          reach-later step p q k s (and_left (p s) (onto k (test t) s) x)
          (onto-map k step (So (test t)) (Reach k step p q) s (λ u b. h u (g.inside s u l b)) ((onto-iff k (test t) s l).0 (and_right (p s) (onto k (test t) s) x))))
          (or_case (q s) (p s && onto k (test t) s) e);
      here = λ s l e. least-closed n until_rule s l (or_left (q s) (p s && onto k z s) e);
      back = λ s l a o. least-closed n until_rule s l (or_right (q s) (p s && onto k z s) (and_both (p s) (onto k z s) a ((onto-iff k z s l).1 o)));
    }
      where
        z : ℕ → Bool
        z = test (least n until_rule)
