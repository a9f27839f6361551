-- Ways and lassos that bear an operator out: by distances, round and round, and what each operator asks of them. Assumes nothing.
use mathlib.Core.Path.{◌≡◌, refl, sym, ap, ◌∙◌}
use mathlib.Core.List.{List, [], ◌∷◌}
use mathlib.Core.Bool.{Bool, true, false, not, ◌&&◌}
use mathlib.Core.Logic.{◌↔◌, ⊎_elim}
use Prim.Native.Nat.{ℕ, zero, suc, ◌≤◌, ◌<◌}
use native.Mathlib.Omega.{arith}
use lib.Dec.{ltb}
use borrow.Author.Tests.{lt-ltb}
use Rattle.base.proofs.Bools.{split, clash, and_left, and_right, and_both, not_of_false, false_of_not, true_of_not}
use Rattle.ctl.specs.Paths.{E, A, Paths, Globally, Until, Weak, So, Graph}
use Rattle.ctl.proofs.Paths.{next-iff, finally-iff, globally-iff}
use Rattle.labelling.specs.declared.Operator.{Operator}
use Rattle.labelling.specs.declared.Operator.TheVariants as op
use Rattle.labelling.specs.Labels.{Said, Labelled}
use Rattle.forcing.specs.Numbers.{none, number_of, numbered}
use Rattle.forcing.proofs.Steps.{numbered-some, numbered-none}
use Rattle.lassos.specs.Lassos.{place, last, any, Way, Reaches, Evident, Not, Neither}
use Rattle.lassos.specs.Distances.{Distances}
use Rattle.lassos.proofs.Ways.{way-inside, way-one, way-more}
use Rattle.lassos.proofs.Sound.{bears-some}
use Rattle.lassos.proofs.Shortest.{shortest, number-iff, number-below}
use Rattle.lassos.specs.Dual.{dual, dual_first, dual_second, Same}
use Rattle.lassos.proofs.Dual.{not-all-some, evident-dual}
use Rattle.lassos.proofs.Endless.{weak-on}
use Rattle.walks.specs.Told.{rest_of}
use Rattle.walks.specs.Walks.{Numbered, SomeNumbered, Walked, Endless, SomeEndless, Circled}
use Rattle.walks.specs.declared.Trail.{Trail}
use Rattle.witness.specs.Witness.{Witness}
use Rattle.witness.specs.Trails.{Ready, Trailed, Stepped, Possible}

-- ---- a way where there is one, else a lasso

module _ {n : ℕ} {step : ℕ → ℕ → Bool} (g : Graph n step) (x y avoid : ℕ → Bool) (s : ℕ) (ready : Ready n step x y avoid s) (numbers : List ℕ)
    (small : (t : ℕ) → number_of numbers t ≤ none) (d : Distances n step x y (numbered numbers) (number_of numbers)) where
  reached : (t : ℕ) → t < n → (numbered numbers t ≡ true) ↔ Paths E step t (Until (So x) (So y))
  reached = number-iff g x y (numbered numbers) (number_of numbers) d

  is-numbered : (number_of numbers s ≡ none → ⊥) → Numbered n step x y numbers s
  is-numbered some = record { inside = ready.low; has = numbered-some numbers s some; small = small; distances = d }

  pub trail-numbered : (number_of numbers s ≡ none → ⊥) → SomeNumbered n step numbers s
  trail-numbered some = record { p = x; q = y; numbered = is-numbered some }

  pub trail-way : (some : number_of numbers s ≡ none → ⊥) (old new : List ℕ) (end : ℕ) → Walked n step numbers s 0 old new end → Trailed n step x y s old new (record { length = end; turn = 0 })
  trail-way some old new end w = record {
    witness = record {
      ls = w.ls;
      counted = omega (arith, w.ends);
      evident = record {
        few = omega (arith, w.size, number-below g x y (numbered numbers) (number_of numbers) d s ready.low (numbered-some numbers s some));
        goes = w.way;
        shows = w.reaches x y (is-numbered some);
        shortest = λ _. shortest g x y (numbered numbers) (number_of numbers) d s ready.low w.ls (omega (arith, w.size));
      };
      told = w.told;
    };
    endless = λ f. absurd (f refl);
  }

  -- the places that are not to be avoided and from which the goal is not reached
  abbrev keep : ℕ → Bool
  keep t = not (avoid t) && not (numbered numbers t)

  module _ (t : ℕ) (l : t < n) (k : keep t ≡ true) where
    free : avoid t ≡ false
    free = false_of_not (avoid t) (and_left (not (avoid t)) (not (numbered numbers t)) k)

    away : numbered numbers t ≡ false
    away = false_of_not (numbered numbers t) (and_right (not (avoid t)) (not (numbered numbers t)) k)

    kept_on : (x t ≡ true) × ((u : ℕ) × (step t u ≡ true) × (avoid u ≡ false))
    kept_on = ready.on t l free (λ h. clash ((reached t l).1 h) away)

  is-endless : number_of numbers s ≡ none → Endless n step x avoid s
  is-endless out = record {
    keep = keep;
    inside = ready.low;
    start = and_both (not (avoid s)) (not (numbered numbers s)) (not_of_false (avoid s) ready.start) (not_of_false (numbered numbers s) (numbered-none numbers s out));
    holds = λ t l k. (kept_on t l k).0;
    onward = λ t l k. (kept_on t l k).1;
    stays = λ t u l k h e. and_both (not (avoid u)) (not (numbered numbers u)) (not_of_false (avoid u) e)
        (not_of_false (numbered numbers u) (⊎_elim (λ v. clash (d.back t u l (kept_on t l k).0 h v).0 (away t l k)) (λ v. v) (split (numbered numbers u))));
  }

  pub trail-endless : number_of numbers s ≡ none → SomeEndless n step avoid s
  trail-endless out = record { x = x; endless = is-endless out }

  pub trail-circle : number_of numbers s ≡ none → (old new : List ℕ) (r : Trail) → Circled n step avoid s old new r → Trailed n step x y s old new r
  trail-circle out old new r w = record {
    witness = record { ls = w.ls; counted = w.counted; evident = rw w.turn evident; told = w.told };
    endless = λ _ h. clash ((reached s ready.low).1 h) (numbered-none numbers s out);
  }
    where
      evident : Evident E op.Weak n step (So x) (So y) s (rest_of (suc w.t)) w.ls
      evident = record {
        few = w.few;
        goes = w.lasso;
        shows = w.each x (is-endless out);
        shortest = λ e ks v u. absurd (reached-not ks v u);
      }
        where
          reached-not : (ks : List ℕ) → Way step s ks → Reaches (So x) (So y) ks → ⊥
          reached-not ks v u = clash ((reached s ready.low).1 (bears-some g s ready.low op.Until (So x) (So y) any ks v u)) (numbered-none numbers s out)

-- ---- the row of all places

module _ (n : ℕ) (all : ℕ → Bool) (whole : (t : ℕ) → all t ≡ ltb t n) where
  pub all_true : (t : ℕ) → t < n → all t ≡ true
  all_true t l = whole t ∙ lt-ltb t n l

  -- what is cut out of it
  pub all-cut : (p out : ℕ → Bool) → ((t : ℕ) → out t ≡ (all t && not (p t))) → (t : ℕ) → t < n → out t ≡ not (p t)
  all-cut p out is t l = is t ∙ ap (λ (b : Bool). b && not (p t)) (all_true t l)

-- ---- what each operator asks

module _ {n : ℕ} {step : ℕ → ℕ → Bool} (g : Graph n step) (p q avoid : ℕ → Bool) (s : ℕ) where
  -- F as U through all places
  pub finally-ready : (all : ℕ → Bool) → ((t : ℕ) → t < n → all t ≡ true) → Possible op.Finally n step p q avoid s → Ready n step all p avoid s
  finally-ready all whole h = record { low = h.low; start = h.start; on = λ t l e no. absurd (no ((finally-iff g E all (So p) whole t l).1 ((h.exact t l).0 e))) }

  pub until-ready : Possible op.Until n step p q avoid s → Ready n step p q avoid s
  until-ready h = record { low = h.low; start = h.start; on = λ t l e no. absurd (no ((h.exact t l).0 e)) }

  pub weak-ready : Possible op.Weak n step p q avoid s → Ready n step p q avoid s
  weak-ready h = record {
    low = h.low;
    start = h.start;
    on = λ t l e no. let w = weak-on step p q t ((h.exact t l).0 e) no in let u = w.1 in (w.0, (u.0, u.1, (h.exact u.0 (g.inside t u.0 l u.1)).1 u.2));
  }

  -- G as W with a goal of no place
  pub globally-ready : (empty : ℕ → Bool) → ((t : ℕ) → empty t ≡ false) → Possible op.Globally n step p q avoid s → Ready n step p empty avoid s
  globally-ready empty nil h = record {
    low = h.low;
    start = h.start;
    on = λ t l e no.
        let w = weak-on step p empty t ((same t l).1 ((h.exact t l).0 e)) no in
        let u = w.1 in
        let b = g.inside t u.0 l u.1 in
        (w.0, (u.0, u.1, (h.exact u.0 b).1 ((same u.0 b).0 u.2)));
  }
    where
      same : (t : ℕ) → t < n → Paths E step t (Weak (So p) (So empty)) ↔ Paths E step t (Globally (So p))
      same = globally-iff g E p empty (λ m _. nil m)

  pub next-ready : (outside : ℕ → Bool) → ((t : ℕ) → t < n → outside t ≡ not (p t)) → Possible op.Next n step p q avoid s → (u : ℕ) × (step s u ≡ true) × (outside u ≡ false)
  next-ready outside is h =
      let o = (next-iff g E (So p) s h.low).1 ((h.exact s h.low).0 h.start) in
      (o.0, o.1, is o.0 (g.inside s o.0 h.low o.1) ∙ ap not o.2)

  -- ---- what each operator is shown

  module _ (l : s < n) (old new : List ℕ) (r : Trail) where
    pub next-shown : (outside : ℕ → Bool) → ((t : ℕ) → t < n → outside t ≡ not (p t)) → Stepped step outside s old new r → Witness E op.Next n step (So p) (So q) s old new r.length r.turn
    next-shown outside is w = record {
      ls = s ∷ w.u ∷ [];
      counted = w.counted;
      evident = rw w.straight (record {
        few = omega arith;
        goes = way-more step s [] s w.u (way-one step s) w.goes;
        shows = (refl, true_of_not (p w.u) (sym (is w.u (g.inside s w.u l w.goes)) ∙ w.free));
        shortest = λ _ ks v b. omega (arith, b.0);
      });
      told = w.told;
    }

    pub finally-shown : (all : ℕ → Bool) → ((t : ℕ) → t < n → all t ≡ true) → Possible op.Finally n step p q avoid s → Trailed n step all p s old new r → Witness E op.Finally n step (So p) (So q) s old new r.length r.turn
    finally-shown all whole h w = let m = w.witness in record { ls = m.ls; counted = m.counted; evident = go r.turn m.evident w.endless; told = m.told }
      where
        reached : Paths E step s (Until (So all) (So p))
        reached = (finally-iff g E all (So p) whole s l).1 ((h.exact s l).0 h.start)

        go : (t : ℕ) → Evident E op.Weak n step (So all) (So p) s (rest_of t) w.witness.ls → ((t ≡ 0 → ⊥) → Paths E step s (Until (So all) (So p)) → ⊥) → Evident E op.Finally n step (So p) (So q) s (rest_of t) w.witness.ls
        go zero e f = record {
          few = e.few;
          goes = e.goes;
          shows = e.shows.0;
          shortest = λ d ks v b. e.shortest d ks v (b, λ i c. whole (place ks i) (way-inside g s l ks v i (omega (arith, v.some))));
        }
        go (suc t) e f = absurd (f (λ d. omega arith) reached)

    pub until-shown : Possible op.Until n step p q avoid s → Trailed n step p q s old new r → Witness E op.Until n step (So p) (So q) s old new r.length r.turn
    until-shown h w = let m = w.witness in record { ls = m.ls; counted = m.counted; evident = go r.turn m.evident w.endless; told = m.told }
      where
        go : (t : ℕ) → Evident E op.Weak n step (So p) (So q) s (rest_of t) w.witness.ls → ((t ≡ 0 → ⊥) → Paths E step s (Until (So p) (So q)) → ⊥) → Evident E op.Until n step (So p) (So q) s (rest_of t) w.witness.ls
        go zero e f = record { few = e.few; goes = e.goes; shows = e.shows; shortest = e.shortest }
        go (suc t) e f = absurd (f (λ d. omega arith) ((h.exact s l).0 h.start))

    pub globally-shown : (empty : ℕ → Bool) → ((t : ℕ) → empty t ≡ false) → Trailed n step p empty s old new r → Witness E op.Globally n step (So p) (So q) s old new r.length r.turn
    globally-shown empty nil w = let m = w.witness in record { ls = m.ls; counted = m.counted; evident = go r.turn m.evident; told = m.told }
      where
        go : (t : ℕ) → Evident E op.Weak n step (So p) (So empty) s (rest_of t) w.witness.ls → Evident E op.Globally n step (So p) (So q) s (rest_of t) w.witness.ls
        go zero e = clash e.shows.0 (nil (place w.witness.ls (last w.witness.ls)))
        go (suc t) e = record { few = e.few; goes = e.goes; shows = e.shows; shortest = λ d ks v b. absurd b }

-- ---- the dual's operands

module _ (n : ℕ) (p q x y : ℕ → Bool) where
  outside-same : ((t : ℕ) → t < n → x t ≡ not (p t)) → Same n (So x) (Not (So p))
  outside-same is t l = ((λ e h. clash h (false_of_not (p t) (sym (is t l) ∙ e))), λ f. ⊎_elim (λ h. absurd (f h)) (λ h. is t l ∙ not_of_false (p t) h) (split (p t)))

  neither-same : ((t : ℕ) → t < n → y t ≡ (not (q t) && not (p t))) → Same n (So y) (Neither (So p) (So q))
  neither-same is t l = (there, back)
    where
      there : y t ≡ true → Neither (So p) (So q) t
      there e =
          let f = sym (is t l) ∙ e in
          ((λ h. clash h (false_of_not (p t) (and_right (not (q t)) (not (p t)) f))), λ h. clash h (false_of_not (q t) (and_left (not (q t)) (not (p t)) f)))

      off : (b : Bool) → (b ≡ true → ⊥) → not b ≡ true
      off b f = ⊎_elim (λ h. absurd (f h)) (not_of_false b) (split b)

      back : Neither (So p) (So q) t → y t ≡ true
      back (f, h) = is t l ∙ and_both (not (q t)) (not (p t)) (off (q t) h) (off (p t) f)

module _ (all p q x y : ℕ → Bool) where
  abbrev Both : (ℕ → Type 0) → (ℕ → Type 0) → Type 0
  Both X Y = (n : ℕ) → ((t : ℕ) → all t ≡ ltb t n) → Same n (So x) X × Same n (So y) Y

  pub turned-outside : ((t : ℕ) → x t ≡ (all t && not (p t))) → ((t : ℕ) → y t ≡ (all t && not (q t))) → Both (Not (So p)) (Not (So q))
  turned-outside ex ey n whole = (outside-same n p q x y (all-cut n all whole p x ex), outside-same n q p y x (all-cut n all whole q y ey))

  pub turned-neither : ((t : ℕ) → x t ≡ (all t && not (q t))) → ((t : ℕ) → y t ≡ (x t && not (p t))) → Both (Not (So q)) (Neither (So p) (So q))
  turned-neither ex ey n whole =
      let out = all-cut n all whole q x ex in
      (outside-same n q p x y out, neither-same n p q x y (λ t l. ey t ∙ ap (λ (b : Bool). b && not (p t)) (out t l)))

-- ---- where there is evidence

module _ {n : ℕ} {step : ℕ → ℕ → Bool} (g : Graph n step) (o : Operator) (p q row : ℕ → Bool) (s : ℕ) (l : s < n) where
  pub some-possible : (avoid : ℕ → Bool) → ((t : ℕ) → t < n → avoid t ≡ not (row t)) → row s ≡ true → Labelled n row (λ t. Paths E step t (Said o (So p) (So q))) → Possible o n step p q avoid s
  some-possible avoid is e w = record {
    low = l;
    start = is s l ∙ ap not e;
    exact = λ t b. ((λ f. (w.exact t b).0 (true_of_not (row t) (sym (is t b) ∙ f))), λ h. is t b ∙ ap not ((w.exact t b).1 h));
  }

  module _ (x y : ℕ → Bool) (first : Same n (So x) (dual_first o (So p) (So q))) (second : Same n (So y) (dual_second o (So p) (So q))) where
    pub all-possible : row s ≡ false → Labelled n row (λ t. Paths A step t (Said o (So p) (So q))) → Possible (dual o) n step x y row s
    all-possible e w = record {
      low = l;
      start = e;
      exact = λ t b.
          let m = not-all-some g t b o p q x y first second in
          ((λ f. m.0 (λ h. clash ((w.exact t b).1 h) f)), λ h. ⊎_elim (λ v. absurd (m.1 h ((w.exact t b).0 v))) (λ v. v) (split (row t)));
    }

    pub against-shown : (old new : List ℕ) (m turn : ℕ) → Witness E (dual o) n step (So x) (So y) s old new m turn → Witness A o n step (So p) (So q) s old new m turn
    against-shown old new m turn w = record { ls = w.ls; counted = w.counted; evident = evident-dual g s l o p q x y first second (rest_of turn) w.ls w.evident; told = w.told }
