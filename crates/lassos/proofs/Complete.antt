-- Where E is true a list bears it out, and where A is false one speaks against it, of no more places than there are. Assumes nothing.
use mathlib.Core.Path.{◌≡◌, refl, ◌∙◌, ap}
use mathlib.Core.Bool.{Bool, true, false, not, ◌||◌}
use mathlib.Core.List.{List, [], ◌∷◌}
use mathlib.Core.Logic.{◌⊎◌, inl, inr, ◌↔◌, ⊎_elim}
use Prim.Native.Nat.{ℕ, zero, suc, ◌+◌, ◌-◌, ◌≤◌, ◌<◌}
use native.Mathlib.Omega.{arith}
use native.Mathlib.Nat.{not-suc-le-zero, le_of_suc-le-suc}
use native.Mathlib.Decide.{dec_lt}
use lib.ListN.{length}
use Rattle.base.proofs.Bools.{split, clash, and_left, and_right, false_of_not, not_of_false, true_of_not, imply-use, imply-fail, search-below}
use Rattle.ctl.specs.Paths.{Path, E, A, Paths, Next, Globally, Until, Weak, So, Graph}
use Rattle.ctl.specs.Tables.{Table}
use Rattle.ctl.proofs.Paths.{path_inside, path-first, until-map, weak-map, next-iff}
use Rattle.ctl.proofs.Until.{until-table, away-path}
use Rattle.ctl.proofs.Weak.{non, nor, steady-of-weak, weak-table}
use Rattle.ctl.proofs.Least.{test, least, until_rule, until-least}
use Rattle.labelling.specs.declared.Operator.{Operator}
use Rattle.labelling.specs.declared.Operator.TheVariants as op
use Rattle.labelling.specs.Labels.{Said}
use Rattle.lassos.specs.Lassos.{place, last, any, turn, Way, Lasso, Each, Reaches, Bears, Not, Neither, Against, Shown, enough}
use Rattle.lassos.proofs.Sound.{bears-some, against-all}
use Rattle.lassos.proofs.Repeat.{first, Repeats, repeat, cut, cut-before, cut-past, path-cut}

not_so : (b : Bool) → not b ≡ true → ¬ (b ≡ true)
not_so b e x = clash x (false_of_not b e)

-- ---- the first k places of a path

unfoldable pub places : ℕ → (ℕ → ℕ) → List ℕ
places zero π = []
places (suc k) π = π zero ∷ places k (λ i. π (suc i))

pub places-length : (k : ℕ) (π : ℕ → ℕ) → length (places k π) ≡ k
unfolding places
places-length zero π = refl
places-length (suc k) π = ap suc (places-length k (λ i. π (suc i)))

pub places-at : (k : ℕ) (π : ℕ → ℕ) (i : ℕ) → i < k → place (places k π) i ≡ π i
unfolding places
places-at zero π i l = absurd (not-suc-le-zero l)
places-at (suc k) π zero l = refl
places-at (suc k) π (suc i) l = places-at k (λ j. π (suc j)) i (le_of_suc-le-suc l)

module _ (k : ℕ) (π : ℕ → ℕ) where
  long : length (places (suc k) π) ≡ suc k
  long = places-length (suc k) π

  at : (i : ℕ) → i ≤ k → place (places (suc k) π) i ≡ π i
  at i l = places-at (suc k) π i (omega arith)

  at_last : place (places (suc k) π) (last (places (suc k) π)) ≡ π k
  at_last = let e : last (places (suc k) π) ≡ k = omega (arith, long) in ap (place (places (suc k) π)) e ∙ at k (omega arith)

  module _ (step : ℕ → ℕ → Bool) (s : ℕ) (w : Path step s π) where
    places-way : Way step s (places (suc k) π)
    places-way = record {
      some = omega (arith, long);
      starts = at 0 (omega arith) ∙ w.0;
      steps = λ i b. rw (at i (omega (arith, long)), at (suc i) (omega (arith, long))) (w.1 i);
    }

    places-lasso : (a : ℕ) → a ≤ k → π a ≡ π (suc k) → Lasso step s (places (suc k) π) a
    places-lasso a l e = record { way = places-way; within = omega (arith, long); turns = rw (at_last, at a l, e) (w.1 k) }

module _ {n : ℕ} {step : ℕ → ℕ → Bool} (g : Graph n step) (s : ℕ) (l : s < n) where
  -- ---- some path, whatever X and Y are

  module _ (X Y : ℕ → Type 0) where
    -- Y after k steps of a path from s, and X before
    abbrev Reached : ℕ → (ℕ → ℕ) → Type 0
    Reached k π = Path step s π × Y (π k) × ((j : ℕ) → j < k → X (π j))

    -- after n steps and more a place was visited twice: what lies between is cut out
    shorter : (k : ℕ) (π : ℕ → ℕ) → n ≤ k → Reached k π → (i : ℕ) × (ρ : ℕ → ℕ) × (i < k) × Reached i ρ
    shorter k π c (w, y, x) = less (repeat π n (path_inside g s l π w))
      where
        less : Repeats π (suc n) → (i : ℕ) × (ρ : ℕ → ℕ) × (i < k) × Reached i ρ
        less (a, d, r, e) = (k - suc d, cut a (suc d) π, omega arith, (path-cut a (suc d) π e step s w, there, before))
          where
            there : Y (cut a (suc d) π (k - suc d))
            there = let z : k - suc d + suc d ≡ k = omega arith in rw (cut-past a (suc d) π (k - suc d) (omega arith), z) y

            before : (j : ℕ) → j < k - suc d → X (cut a (suc d) π j)
            before j b =
                elim (dec_lt j a) [
                  | yes i ↦ rw (cut-before a (suc d) π j i) (x j (omega arith))
                  | no i ↦ rw (cut-past a (suc d) π j (omega arith)) (x (j + suc d) (omega arith))
                ]

    -- so it is reached in fewer than n steps
    soon : (m k : ℕ) (π : ℕ → ℕ) → k < m → Reached k π → (i : ℕ) × (ρ : ℕ → ℕ) × (i < n) × Reached i ρ
    soon zero k π b h = absurd (not-suc-le-zero b)
    soon (suc m) k π b h =
        elim (dec_lt k n) [
          | yes c ↦ (k, π, c, h)
          | no c ↦ let r = shorter k π (omega arith) h in soon m r.0 r.1 (omega (arith, r.2)) r.3
        ]

    pub until-way : Paths E step s (Until X Y) → (ls : List ℕ) × (length ls ≤ n) × Way step s ls × Reaches X Y ls
    until-way (π, w, (k, y, x)) = list (soon (suc k) k π (omega arith) (w, y, x))
      where
        list : (i : ℕ) × (ρ : ℕ → ℕ) × (i < n) × Reached i ρ → (ls : List ℕ) × (length ls ≤ n) × Way step s ls × Reaches X Y ls
        list (i, ρ, b, (v, y, x)) = (
          places (suc i) ρ,
          omega (arith, long i ρ),
          places-way i ρ step s v,
          (rw (at_last i ρ) y, λ j c. let d : j < i = omega (arith, long i ρ) in rw (at i ρ j (omega arith)) (x j d)),
        )

  -- X at the first n + 1 places of a path: two of them are the same
  pub globally-lasso : (X : ℕ → Type 0) (π : ℕ → ℕ) → Path step s π → ((i : ℕ) → i ≤ n → X (π i)) → (ls : List ℕ) × (t : ℕ) × (length ls ≤ n) × Lasso step s ls t × Each X ls
  globally-lasso X π w x = list (repeat π n (path_inside g s l π w))
    where
      list : Repeats π (suc n) → (ls : List ℕ) × (t : ℕ) × (length ls ≤ n) × Lasso step s ls t × Each X ls
      list (a, d, r, e) =
          let z : a + suc d ≡ suc (a + d) = omega arith in (
            places (suc (a + d)) π,
            a,
            omega (arith, long (a + d) π),
            places-lasso (a + d) π step s w a (omega arith) (e ∙ ap π z),
            λ i b. let c : i ≤ a + d = omega (arith, long (a + d) π) in rw (at (a + d) π i c) (x i (omega arith)),
          )

  -- X as long as a test fails, and Y where it holds first
  pub weak-shown : (X Y : ℕ → Type 0) (f : ℕ → Bool) (π : ℕ → ℕ) → Path step s π → ((i : ℕ) → ((j : ℕ) → j ≤ i → f (π j) ≡ false) → X (π i))
      → ((i : ℕ) → ((j : ℕ) → j < i → f (π j) ≡ false) → f (π i) ≡ true → Y (π i)) → Shown step s n (Bears op.Weak X Y)
  weak-shown X Y f π w stays stops = ⊎_elim round ends (first (suc n) (λ i. f (π i)))
    where
      round : ((i : ℕ) → i < suc n → f (π i) ≡ false) → Shown step s n (Bears op.Weak X Y)
      round none = let m = globally-lasso X π w (λ i b. stays i (λ j c. none j (omega arith))) in (turn m.1, m.0, m.2, m.3, m.4)

      ends : (i : ℕ) × (f (π i) ≡ true) × ((j : ℕ) → j < i → f (π j) ≡ false) → Shown step s n (Bears op.Weak X Y)
      ends (i, e, none) = let m = until-way X Y (π, w, (i, stops i none e, λ j b. stays j (λ k c. none k (omega arith)))) in (any, m.0, m.1, m.2, m.3)

  next-shown : (X Y : ℕ → Type 0) → Paths E step s (Next X) → Shown step s 2 (Bears op.Next X Y)
  next-shown X Y (π, w, x) =
      let k = long 1 π in
      (any, places 2 π, omega (arith, k), places-way 1 π step s w, (k, rw (at 1 π 1 (omega arith)) x))

  -- ---- tests that decide X and Y

  -- the test p decides X at the places of the graph
  abbrev pub Decides : (ℕ → Bool) → (ℕ → Type 0) → Type 0
  Decides p X = (t : ℕ) → t < n → So p t ↔ X t

  module _ (p q : ℕ → Bool) (X Y : ℕ → Type 0) (dx : Decides p X) (dy : Decides q Y) where
    -- the same of a place of a path
    module _ (π : ℕ → ℕ) (w : Path step s π) (i : ℕ) where
      on-x : So p (π i) ↔ X (π i)
      on-x = dx (π i) (path_inside g s l π w i)

      on-y : So q (π i) ↔ Y (π i)
      on-y = dy (π i) (path_inside g s l π w i)

    some-shown : (o : Operator) → Paths E step s (Said o X Y) → Shown step s (enough o n) (Bears o X Y)
    some-shown op.Next h = next-shown X Y h
    some-shown op.Finally (π, w, (i, x)) = let m = until-way (λ _. Unit {0}) X (π, w, (i, x, λ j b. tt)) in (any, m.0, m.1, m.2, m.3.0)
    some-shown op.Globally (π, w, x) = let m = globally-lasso X π w (λ i b. x i) in (turn m.1, m.0, m.2, m.3, m.4)
    some-shown op.Until h = let m = until-way X Y h in (any, m.0, m.1, m.2, m.3)
    some-shown op.Weak (π, w, h) =
        let st = steady-of-weak p q π (weak-map X Y (So p) (So q) π (λ i. (on-x π w i).1) (λ i. (on-y π w i).1) h) in
        weak-shown X Y q π w (λ i none. ⊎_elim (on-x π w i).0 (λ v. clash v.2 (none v.0 v.1)) (st i)) (λ i none e. (on-y π w i).0 e)

    next-all : Paths A step s (Next X) ⊎ Shown step s 2 (Against op.Next X Y)
    next-all = ⊎_elim (λ h. inl (all h)) (λ v. inr (out v)) (search-below n (λ t. not (step s t) || p t))
      where
        all : ((t : ℕ) → t < n → (not (step s t) || p t) ≡ true) → Paths A step s (Next X)
        all h π w = (on-x π w 1).0 (imply-use (step s (π 1)) (p (π 1)) (h (π 1) (path_inside g s l π w 1)) (path-first step s π w))

        out : (t : ℕ) × (t < n) × ((not (step s t) || p t) ≡ false) → Shown step s 2 (Against op.Next X Y)
        out (t, b, e) = let f = imply-fail (step s t) (p t) e in next-shown (Not X) (Not Y) ((next-iff g E (Not X) s l).0 (t, f.0, λ x. clash ((dx t b).1 x) f.1))

    -- from a place outside the table of A[p U q] a path stays outside as long as p holds
    until-all : Paths A step s (Until X Y) ⊎ Shown step s n (Against op.Until X Y)
    until-all = ⊎_elim (λ e. inl (all ((until-table g p q A z v s l).0 e))) (λ e. inr (out (away-path g p q z v s l e))) (split (z s))
      where
        z : ℕ → Bool
        z = test (least n (until_rule g A p q))

        v : Table A n step p q z
        v = until-least g A p q

        all : Paths A step s (Until (So p) (So q)) → Paths A step s (Until X Y)
        all h π w = until-map (So p) (So q) X Y π (λ i. (on-x π w i).0) (λ i. (on-y π w i).0) (h π w)

        out : (π : ℕ → ℕ) × Path step s π × ((i : ℕ) → ((j : ℕ) → j < i → p (π j) ≡ true) → z (π i) ≡ false) → Shown step s n (Against op.Until X Y)
        out (π, w, h) =
            weak-shown (Not Y) (Neither X Y) (non p) π w (λ i b. not-y i (λ j c. b j (omega arith)))
            (λ i b e. ((λ x. not_so (p (π i)) e ((on-x π w i).1 x)), not-y i b))
          where
            not-y : (i : ℕ) → ((j : ℕ) → j < i → non p (π j) ≡ false) → ¬ Y (π i)
            not-y i b y = clash (v.here (π i) (path_inside g s l π w i) ((on-y π w i).1 y)) (h i (λ j c. true_of_not (p (π j)) (b j c)))

    -- a place inside the table of E[!q U (!p & !q)] has a path along it
    weak-all : Paths A step s (Weak X Y) ⊎ Shown step s n (Against op.Weak X Y)
    weak-all =
        ⊎_elim (λ e. inr (out ((until-table g (non q) (nor p q) E z v s l).0 e))) (λ e. inl (all ((weak-table g p q z s l A v).0 (not_of_false (z s) e))))
        (split (z s))
      where
        z : ℕ → Bool
        z = test (least n (until_rule g E (non q) (nor p q)))

        v : Table E n step (non q) (nor p q) z
        v = until-least g E (non q) (nor p q)

        all : Paths A step s (Weak (So p) (So q)) → Paths A step s (Weak X Y)
        all h π w = weak-map (So p) (So q) X Y π (λ i. (on-x π w i).0) (λ i. (on-y π w i).0) (h π w)

        out : Paths E step s (Until (So (non q)) (So (nor p q))) → Shown step s n (Against op.Weak X Y)
        out (π, w, u) = let m = until-way (Not Y) (Neither X Y) (π, w, (u.0, neither, λ j b. not-y j (u.2 j b))) in (any, m.0, m.1, m.2, m.3)
          where
            not-y : (i : ℕ) → non q (π i) ≡ true → ¬ Y (π i)
            not-y i e y = not_so (q (π i)) e ((on-y π w i).1 y)

            neither : Neither X Y (π u.0)
            neither =
                let i = u.0 in
                ((λ x. not_so (p (π i)) (and_left (non p (π i)) (non q (π i)) u.1) ((on-x π w i).1 x)), not-y i (and_right (non p (π i)) (non q (π i)) u.1))

  module _ (p q : ℕ → Bool) (X Y : ℕ → Type 0) (dx : Decides p X) (dy : Decides q Y) where
    -- all paths have it, or a list speaks against it; F as U with X at every place, G as W with Y at none
    pub all-or-against : (o : Operator) → Paths A step s (Said o X Y) ⊎ Shown step s (enough o n) (Against o X Y)
    all-or-against op.Next = next-all p q X Y dx dy
    all-or-against op.Finally =
        ⊎_elim (λ h. inl (λ π w. let u = h π w in (u.0, u.1))) (λ m. inr (round m)) (until-all (λ _. true) p (λ _. Unit {0}) X (λ t b. ((λ _. tt), λ _. refl)) dx)
      where
        round : Shown step s n (Against op.Until (λ _. Unit {0}) X) → Shown step s n (Against op.Finally X Y)
        round (any, ls, k, w, b) = absurd (b.0.0 tt)
        round (turn t, ls, k, w, b) = (turn t, ls, k, w, b)
    all-or-against op.Globally =
        ⊎_elim (λ h. inl (each h)) (λ m. inr (ends m)) (weak-all p (λ _. false) X (λ _. ⊥) dx (λ t b. ((λ e. clash e refl), λ x. absurd x)))
      where
        each : Paths A step s (Weak X (λ _. ⊥)) → Paths A step s (Globally X)
        each h π w i = let d = on-x p q X Y dx dy π w i in ⊎_elim d.0 (λ f. absurd (h π w ((λ u. u.1), λ a. clash (d.1 (a i)) f))) (split (p (π i)))

        ends : Shown step s n (Against op.Weak X (λ _. ⊥)) → Shown step s n (Against op.Globally X Y)
        ends (any, ls, k, w, b) = (any, ls, k, w, b.0.0)
        ends (turn t, ls, k, w, b) = absurd b
    all-or-against op.Until = until-all p q X Y dx dy
    all-or-against op.Weak = weak-all p q X Y dx dy

    -- ---- E is true where a list bears it out, A is false where one speaks against it, and nowhere else

    pub some-iff : (o : Operator) → Paths E step s (Said o X Y) ↔ Shown step s (enough o n) (Bears o X Y)
    some-iff o = (some-shown p q X Y dx dy o, λ m. bears-some g s l o X Y m.0 m.1 m.3 m.4)

    pub not-all-iff : (o : Operator) → (¬ Paths A step s (Said o X Y)) ↔ Shown step s (enough o n) (Against o X Y)
    not-all-iff o = (λ h. ⊎_elim (λ x. absurd (h x)) (λ m. m) (all-or-against o), λ m. against-all g s l o X Y m.0 m.1 m.3 m.4)
