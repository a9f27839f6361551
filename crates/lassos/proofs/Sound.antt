-- What a list shows is so: one that bears an operator out proves E of it, one that speaks against it disproves A. Assumes nothing.
use mathlib.Core.Path.{◌≡◌, refl, ◌∙◌, ap, subst}
use mathlib.Core.Bool.{Bool, true, false, cond}
use mathlib.Core.List.{List, [], ◌∷◌}
use Prim.Native.Nat.{ℕ, zero, suc, ◌≤◌, ◌<◌}
use native.Mathlib.Omega.{arith}
use native.Mathlib.Decide.{dec_lt}
use lib.Dec.{ltb}
use lib.ListN.{length}
use borrow.Author.Tests.{ltb-true, ltb-false, lt-ltb}
use Rattle.ctl.specs.Paths.{Path, E, A, Paths, Globally, Until, Graph}
use Rattle.ctl.proofs.Paths.{path-prolong}
use Rattle.labelling.specs.declared.Operator.{Operator}
use Rattle.labelling.specs.declared.Operator.TheVariants as op
use Rattle.labelling.specs.Labels.{Said}
use Rattle.lassos.specs.Lassos.{place, last, Rest, any, turn, after, position, unroll, StandsFor, Lasso, Goes, Each, Reaches, Bears, Not, Neither, Against}

-- ---- positions of a lasso

-- after a position comes the next one, and after the last the turn
after-case : (k t i : ℕ) (P : ℕ → Type 0) → (suc i < k → P (suc i)) → (k ≤ suc i → P t) → P (after k t i)
after-case k t i P inner outer = go (ltb (suc i) k) refl
  where
    go : (b : Bool) → ltb (suc i) k ≡ b → P (cond b (suc i) t)
    go true e = inner (ltb-true (suc i) k e)
    go false e = outer (ltb-false (suc i) k e)

position-below : (k t : ℕ) → t < k → (i : ℕ) → position k t i < k
unfolding position
position-below k t l zero = omega arith
position-below k t l (suc i) = after-case k t (position k t i) (λ j. j < k) (λ h. h) (λ _. l)

-- up to the last, the position is the number of steps: the path begins with the list
position-same : (k t i : ℕ) → i < k → position k t i ≡ i
unfolding position
position-same k t zero l = refl
position-same k t (suc i) l = ap (after k t) (position-same k t i (omega arith)) ∙ ap (λ (b : Bool). cond b (suc i) t) (lt-ltb (suc i) k l)

pub unroll_begins : (ls : List ℕ) (t i : ℕ) → i < length ls → unroll ls t i ≡ place ls i
unroll_begins ls t i l = ap (place ls) (position-same (length ls) t i l)

-- ---- the path of a list

pub unroll-path : (step : ℕ → ℕ → Bool) (s : ℕ) (ls : List ℕ) (t : ℕ) → Lasso step s ls t → Path step s (unroll ls t)
unfolding position
unroll-path step s ls t w = (w.way.starts, goes)
  where
    goes : (i : ℕ) → step (unroll ls t i) (unroll ls t (suc i)) ≡ true
    goes i =
        let l = position-below (length ls) t w.within i in
        after-case (length ls) t (position (length ls) t i) (λ j. step (unroll ls t i) (place ls j) ≡ true) (w.way.steps (position (length ls) t i))
        (λ h. let e : position (length ls) t i ≡ last ls = omega (arith, l) in rw e w.turns)

-- document 01's program P: statements 1 to 7 with a turn to 4. After statement 7 comes 4, and after four more steps again.
round-p : (unroll (0 ∷ 1 ∷ 2 ∷ 3 ∷ 4 ∷ 5 ∷ 6 ∷ []) 3 6 ≡ 6) × (unroll (0 ∷ 1 ∷ 2 ∷ 3 ∷ 4 ∷ 5 ∷ 6 ∷ []) 3 7 ≡ 3) × (unroll (0 ∷ 1 ∷ 2 ∷ 3 ∷ 4 ∷ 5 ∷ 6 ∷ []) 3 11 ≡ 3)
unfolding position
round-p = (refl, refl, refl)

module _ {n : ℕ} {step : ℕ → ℕ → Bool} (g : Graph n step) (s : ℕ) (l : s < n) where
  -- every list stands for a path
  pub stands-for : (r : Rest) (ls : List ℕ) → Goes step s r ls → (π : ℕ → ℕ) × Path step s π × StandsFor r ls π
  stands-for any ls w =
      let m = path-prolong g (last ls) (place ls) (rw w.starts l) (λ i b. w.steps i (omega arith)) in
      (m.0, (m.1.0 ∙ w.starts, m.1.1), λ i b. m.2 i (omega arith))
  stands-for (turn t) ls w = (unroll ls t, unroll-path step s ls t w, λ i. refl)

-- ---- what a list bears out, each path has that it stands for

module _ (X Y : ℕ → Type 0) (ls : List ℕ) (π : ℕ → ℕ) where
  reaches-until : 0 < length ls → StandsFor any ls π → Reaches X Y ls → Until X Y π
  reaches-until k f (y, x) = (last ls, rw (f (last ls) (omega arith)) y, λ j b. rw (f j (omega arith)) (x j b))

  each-globally : (t : ℕ) → t < length ls → StandsFor (turn t) ls π → Each X ls → Globally X π
  each-globally t k f x i = rw (f i) (x (position (length ls) t i) (position-below (length ls) t k i))

  pub bears-said : (step : ℕ → ℕ → Bool) (s : ℕ) (o : Operator) (r : Rest) → Goes step s r ls → StandsFor r ls π → Bears o X Y r ls → Said o X Y π
  bears-said step s op.Next any w f (k, x) = rw (f 1 (omega (arith, k))) x
  bears-said step s op.Next (turn t) w f b = absurd b
  bears-said step s op.Finally any w f x = (last ls, rw (f (last ls) (omega (arith, w.some))) x)
  bears-said step s op.Finally (turn t) w f b = absurd b
  bears-said step s op.Globally any w f b = absurd b
  bears-said step s op.Globally (turn t) w f x = each-globally t w.within f x
  bears-said step s op.Until any w f x = reaches-until w.some f x
  bears-said step s op.Until (turn t) w f b = absurd b
  bears-said step s op.Weak any w f x = λ z. z.0 (reaches-until w.some f x)
  bears-said step s op.Weak (turn t) w f x = λ z. z.1 (each-globally t w.within f x)

-- ---- what it speaks against, none has

module _ (X Y : ℕ → Type 0) (π : ℕ → ℕ) where
  -- Y at a place with X before, and neither at a place with no Y before
  order : Until X Y π → Until (Not Y) (Neither X Y) π → ⊥
  order (i, y, x) (j, (nx, ny), no-y) =
      elim (dec_lt i j) [
        | yes b ↦ no-y i b y
        | no b ↦ elim (dec_lt j i) [ yes c ↦ nx (x j c) | no c ↦ ny (subst (λ (k : ℕ). Y (π k)) (omega arith) y) ]
      ]

  pub against-said : (step : ℕ → ℕ → Bool) (s : ℕ) (o : Operator) (r : Rest) (ls : List ℕ) → Goes step s r ls → StandsFor r ls π → Against o X Y r ls → ¬ Said o X Y π
  against-said step s op.Next r ls w f b x = bears-said (Not X) (Not Y) ls π step s op.Next r w f b x
  against-said step s op.Finally r ls w f b (i, x) = bears-said (Not X) (Not Y) ls π step s op.Globally r w f b i x
  against-said step s op.Globally r ls w f b x = let u = bears-said (Not X) (Not Y) ls π step s op.Finally r w f b in u.1 (x u.0)
  against-said step s op.Until r ls w f b x = bears-said (Not Y) (Neither X Y) ls π step s op.Weak r w f b (λ u. order x u, λ h. h x.0 x.1)
  against-said step s op.Weak r ls w f b x =
      let u = bears-said (Not Y) (Neither X Y) ls π step s op.Until r w f b in
      x ((λ v. order v u), λ h. u.1.0 (h u.0))

-- ---- the two quantifiers

module _ {n : ℕ} {step : ℕ → ℕ → Bool} (g : Graph n step) (s : ℕ) (l : s < n) (o : Operator) (X Y : ℕ → Type 0) (r : Rest) (ls : List ℕ) (w : Goes step s r ls) where
  pub bears-some : Bears o X Y r ls → Paths E step s (Said o X Y)
  bears-some b = let m = stands-for g s l r ls w in (m.0, m.1, bears-said X Y ls m.0 step s o r w m.2 b)

  pub against-all : Against o X Y r ls → ¬ Paths A step s (Said o X Y)
  against-all b h = let m = stands-for g s l r ls w in against-said X Y m.0 step s o r ls w m.2 b (h m.0 m.1)
