-- What is left of the edges of each place: laws of `Skipped` and `Rest`, and whether a place is ready to join the set.
-- Assumes nothing.
use mathlib.Core.Path.{◌≡◌, refl, ap, ◌∙◌, subst}
use mathlib.Core.List.{List}
use mathlib.Core.Bool.{Bool, true, false}
use mathlib.Core.Logic.{◌↔◌, ⊎_elim}
use Prim.Native.Nat.{ℕ, ◌-◌, ◌≤◌, ◌<◌}
use native.Mathlib.Decide.{dec_lt, ℕ_discrete}
use native.Mathlib.Omega.{arith}
use lib.ListN.{length, get_or, set, length-set}
use lib.Seq.{get_or-set_same, get_or-set_other}
use lib.Dec.{eqb}
use borrow.Author.Tests.{eqb-true, eq-eqb}
use Rattle.base.proofs.Bools.{split, clash, or_left}
use Rattle.ctl.specs.Paths.{quant, A, So}
use Rattle.ctl.specs.Tables.{Onto, Joins}
use Rattle.graph.specs.Lists.{step, listed, Linked, From}
use Rattle.graph.proofs.Lists.{listed-step, listed-end}
use Rattle.graph.proofs.Walk.{Passed}
use Rattle.worklist.specs.Worklist.{Skipped, Rest, Ready}

-- ---- past the edges that lead into the set

module _ (link to : List ℕ) (n : ℕ) (inside : ℕ → Bool) (start k : ℕ) (w : Passed link to n inside false start k) where
  pub skipped-here : inside (get_or to (k - 1) 0) ≡ false → Skipped link to inside start k
  skipped-here e = record { low = w.low; unseen = w.unseen; within = w.within; stop = λ _. e }

  pub skipped-all : k ≤ 0 → Skipped link to inside start 0
  skipped-all z = let d : k ≡ 0 = omega arith in record {
    low = omega arith;
    unseen = λ t h o. subst (λ (x : ℕ). listed link to x t ≡ true) d (w.unseen t h o);
    within = λ t h. clash h (listed-end link to t);
    stop = λ l. absurd (omega arith);
  }

-- ---- what is left of each place's edges

module _ (head link to : List ℕ) where
  pub rest_from : (rest : List ℕ) (inside : ℕ → Bool) (s : ℕ) → Linked head link to → Rest head link to rest inside → From link to (length head) (get_or rest s 0)
  rest_from rest inside s l r = record { count = l.count; low = omega (arith, r.low s, l.lists.heads s); edges = l.lists.edges }

  pub rest-first : (rest : List ℕ) (inside : ℕ → Bool) → rest ≡ head → Rest head link to rest inside
  rest-first rest inside e = rw e (record { long = refl; low = λ s. omega arith; unseen = λ s t h o. h; within = λ s t h. h })

  pub rest-grow : (rest : List ℕ) (z y : ℕ → Bool) → ((t : ℕ) → z t ≡ true → y t ≡ true) → Rest head link to rest z → Rest head link to rest y
  rest-grow rest z y on r =
      record { long = r.long; low = r.low; unseen = λ s t h o. r.unseen s t h (⊎_elim (λ x. clash (on t x) o) (λ x. x) (split (z t))); within = r.within }

  pub rest-skip : (rest : List ℕ) (inside : ℕ → Bool) (s k : ℕ) → s < length rest → Rest head link to rest inside → Skipped link to inside (get_or rest s 0) k → Rest head link to (set rest s k) inside
  rest-skip rest inside s k l r w = record {
    long = length-set rest s k ∙ r.long;
    low = λ a. low a (ℕ_discrete a s);
    unseen = λ a t h o. unseen a t h o (ℕ_discrete a s);
    within = λ a t h. within a t h (ℕ_discrete a s);
  }
    where
      same : get_or (set rest s k) s 0 ≡ k
      same = get_or-set_same rest s k 0 l

      other : (a : ℕ) → (a ≡ s → ⊥) → get_or (set rest s k) a 0 ≡ get_or rest a 0
      other a e = get_or-set_other rest s a k 0 e

      low : (a : ℕ) → Dec (a ≡ s) → get_or (set rest s k) a 0 ≤ get_or head a 0
      low a (yes e) = rw (e, same) (omega (arith, w.low, r.low s))
      low a (no e) = rw (other a e) (r.low a)

      unseen : (a t : ℕ) → step head link to a t ≡ true → inside t ≡ false → Dec (a ≡ s) → listed link to (get_or (set rest s k) a 0) t ≡ true
      unseen a t h o (yes e) = rw (e, same) (w.unseen t (subst (λ (x : ℕ). listed link to (get_or rest x 0) t ≡ true) e (r.unseen a t h o)) o)
      unseen a t h o (no e) = rw (other a e) (r.unseen a t h o)

      within : (a t : ℕ) → listed link to (get_or (set rest s k) a 0) t ≡ true → Dec (a ≡ s) → step head link to a t ≡ true
      within a t h (yes e) = rw e (r.within s t (w.within t (subst (λ (x : ℕ). listed link to x t ≡ true) (ap (λ (y : ℕ). get_or (set rest s k) y 0) e ∙ same) h)))
      within a t h (no e) = r.within a t (subst (λ (x : ℕ). listed link to x t ≡ true) (other a e) h)

  -- no edge of s is left exactly where all its steps lead into the set
  pub skipped-onto : (rest : List ℕ) (inside : ℕ → Bool) (s k : ℕ) → Linked head link to → Rest head link to rest inside → Skipped link to inside (get_or rest s 0) k → (eqb k 0 ≡ true) ↔ Onto A (step head link to) (So inside) s
  skipped-onto rest inside s k l r w = (every, λ o. eq-eqb k 0 (none_left o (dec_lt 0 k)))
    where
      every : eqb k 0 ≡ true → (t : ℕ) → step head link to s t ≡ true → inside t ≡ true
      every x t h =
          ⊎_elim (λ y. y)
          (λ o. clash (subst (λ (z : ℕ). listed link to z t ≡ true) (eqb-true k 0 x) (w.unseen t (r.unseen s t h o) o)) (listed-end link to t))
          (split (inside t))

      none_left : Onto A (step head link to) (So inside) s → Dec (0 < k) → k ≡ 0
      none_left o (no h) = omega arith
      none_left o (yes h) =
          let t = get_or to (k - 1) 0 in
          let c : k ≤ l.count = omega (arith, w.low, r.low s, l.lists.heads s) in
          let here : listed link to k t ≡ true = listed-step link to l.count l.lists.edges.links t k h c ∙ or_left (eqb t t) _ (eq-eqb t t refl) in
          clash (o t (r.within s t (w.within t here))) (w.stop h)

  -- ---- whether a place is ready, test by test

  module _ (all : Bool) (p inside : ℕ → Bool) (s : ℕ) where
    abbrev Is : Type 0
    Is = Ready all (step head link to) p inside s

    pub ready-in : inside s ≡ true → (false ≡ true) ↔ Is
    ready-in e = (λ x. clash x refl, λ j. clash e j.out)

    pub ready-off : p s ≡ false → (false ≡ true) ↔ Is
    ready-off e = (λ x. clash x refl, λ j. clash j.pass e)

    pub ready-some : inside s ≡ false → p s ≡ true → all ≡ false → (true ≡ true) ↔ Is
    ready-some e f a = (λ _. record { out = e; pass = f; onto = λ x. clash x a }, λ _. refl)

    pub ready-all : (rest : List ℕ) (k : ℕ) → inside s ≡ false → p s ≡ true → all ≡ true → Linked head link to → Rest head link to rest inside → Skipped link to inside (get_or rest s 0) k → (eqb k 0 ≡ true) ↔ Is
    ready-all rest k e f a l r w =
        let o = skipped-onto rest inside s k l r w in
        (λ x. record { out = e; pass = f; onto = λ _. o.0 x }, λ j. o.1 (j.onto a))

-- a place with a step into the set joins where it is ready, and is ready where it joins
module _ (all : Bool) (step : ℕ → ℕ → Bool) (p inside : ℕ → Bool) (s : ℕ) where
  pub ready-joins : (t : ℕ) → step s t ≡ true → inside t ≡ true → Ready all step p inside s → Joins (quant all) step p inside s
  ready-joins t h x a = record { out = a.out; pass = a.pass; onto = by all a.onto }
    where
      by : (b : Bool) → (b ≡ true → Onto A step (So inside) s) → Onto (quant b) step (So inside) s
      by true f = f refl
      by false f = (t, h, x)

  pub joins-ready : Joins (quant all) step p inside s → Ready all step p inside s
  joins-ready j = record { out = j.out; pass = j.pass; onto = λ e. by all e j.onto }
    where
      by : (b : Bool) → b ≡ true → Onto (quant b) step (So inside) s → Onto A step (So inside) s
      by true e o = o
      by false e o = clash e refl
