-- The least numbers are what the driver can force, and outside the unit avoids for ever. Assumes nothing.
use mathlib.Core.Path.{◌≡◌, refl, sym, ◌∙◌, ap}
use mathlib.Core.Bool.{Bool, true, false, not}
use mathlib.Core.List.{List, [], ◌∷◌, ◌++◌}
use mathlib.Core.Logic.{◌⊎◌, inl, inr, ⊎_elim}
use Prim.Native.Nat.{ℕ, zero, suc, ◌+◌, ◌<◌, ◌≤◌, suc-le-suc}
use native.Mathlib.Omega.{arith}
use native.Mathlib.Nat.{not-suc-le-zero, le_of_suc-le-suc}
use native.Mathlib.Decide.{dec_lt}
use Rattle.base.proofs.Bools.{split, clash}
use Rattle.ctl.specs.Paths.{Path, Graph}
use Rattle.ctl.proofs.Paths.{path_inside, path-first, path-tail, cons, path-cons}
use Rattle.games.specs.Games.{sofar, Strategy, Legal, Follows, ForcesWithin, Avoids}
use Rattle.games.specs.Ranks.{Ranks}

-- what a strategy says after the place s
abbrev shifted : ℕ → Strategy → Strategy
shifted s σ = λ h. σ (h ++ s ∷ [])

sofar-cons : (s : ℕ) (π : ℕ → ℕ) (i : ℕ) → sofar (cons s π) (suc i) ≡ sofar π i ++ s ∷ []
unfolding sofar cons
sofar-cons s π zero = refl
sofar-cons s π (suc i) = ap (λ (l : List ℕ). π (suc i) ∷ l) (sofar-cons s π i)

follows-cons : (mine : ℕ → Bool) (σ : Strategy) (s : ℕ) (π : ℕ → ℕ) → (mine s ≡ true → π 0 ≡ σ (s ∷ [])) → Follows mine (shifted s σ) π → Follows mine σ (cons s π)
unfolding cons sofar
follows-cons mine σ s π first f zero m = first m
follows-cons mine σ s π first f (suc i) m = f i m ∙ ap σ (sym (sofar-cons s π i))

shifted-legal : (n : ℕ) (step : ℕ → ℕ → Bool) (mine : ℕ → Bool) (σ : Strategy) (s : ℕ) → Legal n step mine σ → Legal n step mine (shifted s σ)
shifted-legal n step mine σ s l = λ t h b m. l t (h ++ s ∷ []) b m

module _ {n : ℕ} {step : ℕ → ℕ → Bool} (g : Graph n step) (mine q won : ℕ → Bool) (number : ℕ → ℕ) (r : Ranks n step mine q won number) where
  -- ---- the driver's number is enough, for every play that goes at his places to a lower number

  abbrev Lower : (ℕ → ℕ) → Type 0
  Lower π = (i : ℕ) → mine (π i) ≡ true → won (π i) ≡ true → q (π i) ≡ false → (won (π (suc i)) ≡ true) × (number (π i) ≡ suc (number (π (suc i))))

  after : (s : ℕ) → s < n → won s ≡ true → q s ≡ false → (π : ℕ → ℕ) → Path step s π → Lower π → (won (π 1) ≡ true) × (number (π 1) < number s)
  after s l w e π p low =
      ⊎_elim
      (λ m.
      let z : π 0 ≡ s = p.0 in
      let b = low 0 (ap mine z ∙ m) (ap won z ∙ w) (ap q z ∙ e) in
      let d : number (π 0) ≡ number s = ap number z in
      (b.0, omega (arith, b.1)))
      (λ m. r.theirs_on s (π 1) l w e m (path-first step s π p)) (split (mine s))

  pub forced : (k s : ℕ) → s < n → won s ≡ true → number s ≤ k → (π : ℕ → ℕ) → Path step s π → Lower π → (i : ℕ) × (i ≤ k) × (q (π i) ≡ true)
  forced zero s l w h π p low =
      ⊎_elim (λ e. (0, omega arith, ap q p.0 ∙ e)) (λ e. let a = after s l w e π p low in absurd (omega (arith, a.1))) (split (q s))
  forced (suc k) s l w h π p low =
      ⊎_elim (λ e. (0, omega arith, ap q p.0 ∙ e))
      (λ e.
      let a = after s l w e π p low in
      let t = forced k (π 1) (g.inside s (π 1) l (path-first step s π p)) a.0 (omega (arith, a.1)) (λ i. π (suc i)) (path-tail step s π p) (λ i. low (suc i)) in
      (suc t.0, suc-le-suc t.1, t.2))
      (split (q s))

  -- ---- no smaller number is: against every strategy some play has no q at its first j + 1 places

  module _ (σ : Strategy) (legal : Legal n step mine σ) where
    -- the place after s and those of h, the latest first
    next : (h : List ℕ) (s : ℕ) → s < n → (t : ℕ) × (t < n) × (step s t ≡ true) × (mine s ≡ true → t ≡ σ (s ∷ h))
    next h s l =
        ⊎_elim
        (λ m. let e = legal s h l m in (σ (s ∷ h), g.inside s (σ (s ∷ h)) l e, e, λ _. refl))
        (λ m. let o = g.onward s l in (o.0, g.inside s o.0 l o.1, o.1, λ t. clash t m))
        (split (mine s))

    module _ (s : ℕ) (l : s < n) where
      -- the places before, and the place, after i steps
      run : ℕ → (h : List ℕ) × (t : ℕ) × (t < n)
      run zero = ([], s, l)
      run (suc i) = let r = run i in let c = next r.0 r.1 r.2 in (r.1 ∷ r.0, c.0, c.1)

      run-sofar : (i : ℕ) → (run i).1 ∷ (run i).0 ≡ sofar (λ j. (run j).1) i
      unfolding run sofar
      run-sofar zero = refl
      run-sofar (suc i) = ap (λ (h : List ℕ). (run (suc i)).1 ∷ h) (run-sofar i)

      play : (π : ℕ → ℕ) × Path step s π × Follows mine σ π
      unfolding run
      play = (
        λ i. (run i).1,
        (refl, λ i. (next (run i).0 (run i).1 (run i).2).2),
        λ i m. (next (run i).0 (run i).1 (run i).2).3 m ∙ ap σ (run-sofar i),
      )

  -- the driver is sure of nothing within j steps
  abbrev Out : ℕ → ℕ → Type 0
  Out j s = won s ≡ true → j < number s

  out-not : (j s : ℕ) → s < n → Out j s → q s ≡ false
  out-not j s l o = ⊎_elim (λ e. let h = r.here s l e in absurd (omega (arith, o h.0, h.1))) (λ e. e) (split (q s))

  out-next : (j s : ℕ) (σ : Strategy) → Legal n step mine σ → s < n → Out (suc j) s → (t : ℕ) × (step s t ≡ true) × (mine s ≡ true → t ≡ σ (s ∷ [])) × Out j t
  out-next j s σ legal l o =
      ⊎_elim
      (λ m.
      let e = legal s [] l m in
      (σ (s ∷ []), e, λ _. refl, λ w. let a = r.mine_least s (σ (s ∷ [])) l m e w in omega (arith, a.1, o a.0)))
      (λ m.
      ⊎_elim
      (λ w. let a = r.theirs_most s l w (out-not (suc j) s l o) m in (a.0, a.1, λ x. clash x m, λ _. omega (arith, a.2, o w)))
      (λ w. let a = r.theirs_out s l w m in (a.0, a.1, λ x. clash x m, λ x. clash x a.2))
      (split (won s)))
      (split (mine s))

  pub missed : (j : ℕ) (σ : Strategy) → Legal n step mine σ → (s : ℕ) → s < n → Out j s
      → (π : ℕ → ℕ) × Path step s π × Follows mine σ π × ((i : ℕ) → i ≤ j → q (π i) ≡ false)
  unfolding cons
  missed zero σ legal s l o =
      let p = play σ legal s l in
      (p.0, p.1, p.2, λ i b. let z : i ≡ 0 = omega arith in rw z (ap q p.1.0 ∙ out-not zero s l o))
  missed (suc j) σ legal s l o =
      let a = out-next j s σ legal l o in
      more a.0 a.1 a.2 (missed j (shifted s σ) (shifted-legal n step mine σ s legal) a.0 (g.inside s a.0 l a.1) a.3)
    where
      more : (t : ℕ) → step s t ≡ true → (mine s ≡ true → t ≡ σ (s ∷ []))
          → (π : ℕ → ℕ) × Path step t π × Follows mine (shifted s σ) π × ((i : ℕ) → i ≤ j → q (π i) ≡ false)
          → (π : ℕ → ℕ) × Path step s π × Follows mine σ π × ((i : ℕ) → i ≤ suc j → q (π i) ≡ false)
      more t e first (π, p, f, none) =
          (cons s π, path-cons step s t π e p, follows-cons mine σ s π (λ m. p.0 ∙ first m) f, at)
        where
          at : (i : ℕ) → i ≤ suc j → q (cons s π i) ≡ false
          at zero b = out-not (suc j) s l o
          at (suc i) b = none i (le_of_suc-le-suc b)

  pub least : (j s : ℕ) → s < n → (won s ≡ true → j < number s) → ForcesWithin n step mine (λ t. q t ≡ true) s j → ⊥
  least j s l o (σ, legal, f) =
      let m = missed j σ legal s l o in
      let u = f m.0 m.1 m.2 in
      clash u.2 (m.3 u.0 u.1)

  -- ---- outside, every play that stays outside at the unit's places has no q

  abbrev Outside : (ℕ → ℕ) → Type 0
  Outside π = (i : ℕ) → mine (π i) ≡ false → won (π i) ≡ false → won (π (suc i)) ≡ false

  pub avoided : (s : ℕ) → s < n → won s ≡ false → (π : ℕ → ℕ) → Path step s π → Outside π → (i : ℕ) → q (π i) ≡ false
  avoided s l w π p out i = out-not 0 (π i) (path_inside g s l π p i) (λ x. clash x (lost i))
    where
      keep : (i : ℕ) → won (π i) ≡ false → won (π (suc i)) ≡ false
      keep i e =
          ⊎_elim
          (λ m.
          ⊎_elim (λ x. clash (r.mine_least (π i) (π (suc i)) (path_inside g s l π p i) m (p.1 i) x).0 e) (λ x. x) (split (won (π (suc i)))))
          (λ m. out i m e)
          (split (mine (π i)))

      lost : (i : ℕ) → won (π i) ≡ false
      lost zero = ap won p.0 ∙ w
      lost (suc i) = keep i (lost i)

  -- ---- both players have such strategies

  -- the strategy that goes from s, by the latest place alone, as `chosen` says
  module _ (R : ℕ → ℕ → Type 0) (chosen : (s : ℕ) → s < n → (t : ℕ) × (step s t ≡ true) × R s t) where
    pick_next : (s : ℕ) → Dec (s < n) → ℕ
    pick_next s (yes l) = (chosen s l).0
    pick_next s (no m) = 0

    positional : Strategy
    positional [] = 0
    positional (s ∷ h) = pick_next s (dec_lt s n)

    picked : (s : ℕ) → s < n → (d : Dec (s < n)) → (step s (pick_next s d) ≡ true) × R s (pick_next s d)
    unfolding pick_next
    picked s l (yes k) = ((chosen s k).1, (chosen s k).2)
    picked s l (no m) = absurd (m l)

    positional-legal : (own : ℕ → Bool) → Legal n step own positional
    unfolding positional
    positional-legal own s h l m = (picked s l (dec_lt s n)).0

    positional-goes : (own : ℕ → Bool) (s : ℕ) → s < n → (π : ℕ → ℕ) → Path step s π → Follows own positional π → (i : ℕ) → own (π i) ≡ true → R (π i) (π (suc i))
    unfolding positional sofar
    positional-goes own s l π p f zero m = rw (f zero m) (picked (π 0) (path_inside g s l π p 0) (dec_lt (π 0) n)).1
    positional-goes own s l π p f (suc i) m = rw (f (suc i) m) (picked (π (suc i)) (path_inside g s l π p (suc i)) (dec_lt (π (suc i)) n)).1

  Down : ℕ → ℕ → Type 0
  Down s t = mine s ≡ true → won s ≡ true → q s ≡ false → (won t ≡ true) × (number s ≡ suc (number t))

  Stays : ℕ → ℕ → Type 0
  Stays s t = mine s ≡ false → won s ≡ false → won t ≡ false

  down : (s : ℕ) → s < n → (t : ℕ) × (step s t ≡ true) × Down s t
  unfolding Down
  down s l =
      ⊎_elim
      (λ e. let o = g.onward s l in (o.0, o.1, λ m w x. clash e x))
      (λ e.
      ⊎_elim
      (λ w.
      ⊎_elim (λ m. let a = r.mine_on s l w e m in (a.0, a.1, λ _ _ _. (a.2, a.3)))
      (λ m. let o = g.onward s l in (o.0, o.1, λ x. clash x m)) (split (mine s)))
      (λ w. let o = g.onward s l in (o.0, o.1, λ m x. clash x w))
      (split (won s)))
      (split (q s))

  stay : (s : ℕ) → s < n → (t : ℕ) × (step s t ≡ true) × Stays s t
  unfolding Stays
  stay s l =
      ⊎_elim
      (λ m. let o = g.onward s l in (o.0, o.1, λ x. clash m x))
      (λ m.
      ⊎_elim (λ w. let o = g.onward s l in (o.0, o.1, λ x y. clash w y))
      (λ w. let a = r.theirs_out s l w m in (a.0, a.1, λ _ _. a.2)) (split (won s)))
      (split (mine s))

  pub forces : (s : ℕ) → s < n → won s ≡ true → ForcesWithin n step mine (λ t. q t ≡ true) s (number s)
  unfolding Down
  forces s l w = (
    positional Down down,
    positional-legal Down down mine,
    λ π p f. forced (number s) s l w (omega arith) π p (λ i m x e. positional-goes Down down mine s l π p f i m m x e),
  )

  pub avoids : (s : ℕ) → s < n → won s ≡ false → Avoids n step mine (λ t. q t ≡ true) s
  unfolding Stays
  avoids s l w = (
    positional Stays stay,
    positional-legal Stays stay (λ t. not (mine t)),
    λ π p f i x. clash x (avoided s l w π p (λ j m e. positional-goes Stays stay (λ t. not (mine t)) s l π p f j (ap not m) m e) i),
  )
