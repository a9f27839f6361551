-- A search backward by a queue: its start, a place taken from the queue, its predecessors one by one, and the end.
-- Assumes nothing.
use mathlib.Core.Path.{◌≡◌, refl, sym, ap, ◌∙◌, subst}
use mathlib.Core.List.{List}
use mathlib.Core.Bool.{Bool, true, false, not, ◌&&◌, ◌||◌}
use mathlib.Core.Logic.{◌⊎◌, inl, inr, ⊎_elim}
use Prim.Native.Nat.{ℕ, suc, ◌+◌, ◌≤◌, ◌<◌}
use native.Mathlib.Decide.{dec_lt, ℕ_discrete}
use native.Mathlib.Omega.{arith}
use lib.ListN.{length, get_or, set}
use lib.Dec.{eqb}
use borrow.Author.Tests.{eqb-true, eq-eqb}
use Rattle.base.proofs.Bools.{split, clash, find-below, and_left, and_right, and_both, not_of_false, false_of_not}
use Rattle.bits.proofs.Counts.{count_less, count-ext}
use Rattle.ctl.specs.Paths.{A, So, Graph}
use Rattle.ctl.specs.Tables.{Onto}
use Rattle.ctl.proofs.Reach.{more-on, more-self, more-only}
use Rattle.graph.specs.Graphs.{Opposite}
use Rattle.worklist.specs.Worklist.{Gathered}
use Rattle.worklist.proofs.Stack.{push-below, push-top}
use Rattle.games.specs.Ranks.{Ranks}
use Rattle.forcing.specs.Search.{Found, Search, Due}

module _ (n : ℕ) (step : ℕ → ℕ → Bool) (mine : ℕ → Bool) where
  -- ---- the start

  pub search-first : Graph n step → (q won inside : ℕ → Bool) (number : ℕ → ℕ) (queue : List ℕ) (h : ℕ) → Gathered q n queue h
      → ((s : ℕ) → s < n → won s ≡ q s) → ((s : ℕ) → s < n → q s ≡ true → number s ≡ 0) → ((s : ℕ) → inside s ≡ false)
      → Search n step mine won inside number queue 0 h 0 (λ _. false)
  search-first g q won inside number queue h a same zero empty = record {
    found = λ s l w. let z = zero s l (sym (same s l) ∙ w) in record { next = λ p. absurd (omega (arith, z)); each = λ p. absurd (omega (arith, z)) };
    taken = λ s e. clash e (empty s);
    most = λ s l w. omega (arith, zero s l (sym (same s l) ∙ w));
    queued = λ i l. let w = a.stacked i l in (w.0, same _ w.0 ∙ w.1, omega (arith, zero _ w.0 w.1));
    range = omega arith;
    fit = omega (arith, a.fit, count-ext won q n same);
    ahead = λ i b l. omega arith;
    order = λ i j b c l.
        let v = a.stacked i (omega arith) in
        omega (arith, zero _ v.0 v.1);
    waits = λ s l w. let i = a.each s l (sym (same s l) ∙ w) in inr (i.0, omega arith, i.1, i.2);
    mine_due = λ s t l m e x. clash x (empty t);
    theirs_due = λ s l m o. let t = g.onward s l in clash (o t.0 t.1) (empty t.0);
  }

  -- ---- a place is taken from the queue

  module _ (won inside inside' : ℕ → Bool) (number : ℕ → ℕ) (queue : List ℕ) (lo hi level t : ℕ) (et : t ≡ get_or queue lo 0)
      (add : (j : ℕ) → inside' j ≡ (inside j || eqb t j)) (w : Search n step mine won inside number queue lo hi level (λ _. false)) (more : lo < hi) where
    on : (s : ℕ) → inside s ≡ true → inside' s ≡ true
    on = more-on inside inside' t add

    only : (s : ℕ) → inside' s ≡ true → (inside s ≡ true) ⊎ (t ≡ s)
    only = more-only inside inside' t add

    known : (t < n) × (won t ≡ true) × (number t ≤ lo)
    known = rw et (w.queued lo more)

    up : level ≤ number t
    up = rw et (w.ahead lo (omega arith) more)

    found-on : (s : ℕ) → Found step mine inside number s → Found step mine inside' number s
    found-on s f = record {
      next = λ p. let a = f.next p in (a.0, a.1, on a.0 a.2, a.3);
      each = λ p m u e. let a = f.each p m u e in (on u a.0, a.1);
    }

    pub search-take : (back : ℕ → ℕ → Bool) → Opposite n step back → Search n step mine won inside' number queue (lo + 1) hi (number t) (back t)
    search-take back o = record {
      found = λ s l x. found-on s (w.found s l x);
      taken = λ s e. ⊎_elim (λ x. let a = w.taken s x in (a.0, omega (arith, a.1, up))) (λ d. subst (λ (a : ℕ). (won a ≡ true) × (number a ≤ number t)) d (known.1, omega arith)) (only s e);
      most = λ s l x. omega (arith, w.most s l x, up);
      queued = w.queued;
      range = omega arith;
      fit = w.fit;
      ahead = λ i b l. let a = w.order lo i (omega arith) (omega arith) l in rw et a;
      order = λ i j b c l. w.order i j (omega arith) c l;
      waits = λ s l x. ⊎_elim (λ e. inl (on s e)) (λ i. later s i (dec_lt lo i.0)) (w.waits s l x);
      mine_due = λ s u l m e x. ⊎_elim (λ y. ⊎_elim inl (λ z. clash z.0 refl) (w.mine_due s u l m e y)) (λ d. here-mine s u l d e (ℕ_discrete s t)) (only u x);
      theirs_due = λ s l m f. ⊎_elim (λ e. here-theirs s l e (ℕ_discrete s t)) (λ e. ⊎_elim inl (λ z. clash z refl) (w.theirs_due s l m (before s f e))) (split (step s t));
    }
      where
        later : (s : ℕ) → (i : (i : ℕ) × (lo ≤ i) × (i < hi) × (get_or queue i 0 ≡ s)) → Dec (lo < i.0) → (inside' s ≡ true) ⊎ ((i : ℕ) × (lo + 1 ≤ i) × (i < hi) × (get_or queue i 0 ≡ s))
        later s i (yes b) = inr (i.0, omega arith, i.2, i.3)
        later s i (no b) =
            let d : lo ≡ i.0 = omega (arith, i.1) in
            inl (subst (λ (a : ℕ). inside' a ≡ true) (et ∙ ap (λ (j : ℕ). get_or queue j 0) d ∙ i.3) (more-self inside inside' t add))

        due : (s : ℕ) → s < n → step s t ≡ true → (s ≡ t → ⊥) → back t s ≡ true
        due s l e d = o.turned s t l known.0 d ∙ e

        here-mine : (s u : ℕ) → s < n → t ≡ u → step s u ≡ true → Dec (s ≡ t) → ((won s ≡ true) × (number s ≤ suc (number u))) ⊎ ((back t s ≡ true) × (number t ≤ number u))
        here-mine s u l d e (yes x) = inl (ap won x ∙ known.1, (let y : number s ≡ number u = ap number (x ∙ d) in omega arith))
        here-mine s u l d e (no x) = inr (due s l (ap (step s) d ∙ e) x, (let y : number t ≡ number u = ap number d in omega arith))

        here-theirs : (s : ℕ) → s < n → step s t ≡ true → Dec (s ≡ t) → (won s ≡ true) ⊎ (back t s ≡ true)
        here-theirs s l e (yes x) = inl (ap won x ∙ known.1)
        here-theirs s l e (no x) = inr (due s l e x)

        before : (s : ℕ) → Onto A step (So inside') s → step s t ≡ false → Onto A step (So inside) s
        before s f e u x = ⊎_elim (λ a. a) (λ d. clash (ap (step s) d ∙ x) e) (only u (f u x))

  -- ---- one predecessor s more is looked at: `more` loses it

  module _ (won inside : ℕ → Bool) (number : ℕ → ℕ) (queue : List ℕ) (lo hi level : ℕ) (more more' : ℕ → Bool) (s : ℕ)
      (each : (u : ℕ) → more u ≡ true → (s ≡ u) ⊎ (more' u ≡ true)) (w : Search n step mine won inside number queue lo hi level more) where
    pub search-skip : (Due step mine won inside s → ⊥) → Search n step mine won inside number queue lo hi level more'
    search-skip off = record {
      found = w.found;
      taken = w.taken;
      most = w.most;
      queued = w.queued;
      range = w.range;
      fit = w.fit;
      ahead = w.ahead;
      order = w.order;
      waits = w.waits;
      mine_due = λ u t l m e x.
          ⊎_elim inl (λ y. ⊎_elim (λ d. inl (let v = has u d (λ z. clash m z) in (v, omega (arith, w.most u l v, y.1)))) (λ z. inr (z, y.1)) (each u y.0))
          (w.mine_due u t l m e x);
      theirs_due = λ u l m f. ⊎_elim inl (λ y. ⊎_elim (λ d. inl (has u d (λ _. f))) inr (each u y)) (w.theirs_due u l m f);
    }
      where
        has : (u : ℕ) → s ≡ u → (mine u ≡ false → Onto A step (So inside) u) → won u ≡ true
        has u d f = ⊎_elim (λ v. v) (λ v. absurd (off (subst (Due step mine won inside) (sym d) (record { out = v; onto = f })))) (split (won u))

    module _ (won' : ℕ → Bool) (number' : ℕ → ℕ) (join : (j : ℕ) → won' j ≡ (won j || eqb s j)) (new : number' s ≡ suc level)
        (old : (j : ℕ) → (s ≡ j → ⊥) → number' j ≡ number j) (l : s < n) (room : hi < length queue) (low : level < hi) (t : ℕ) (est : step s t ≡ true)
        (reached : inside t ≡ true) (is : number t ≡ level) (due : Due step mine won inside s) where
      grows : (u : ℕ) → won u ≡ true → won' u ≡ true
      grows = more-on won won' s join

      self : won' s ≡ true
      self = more-self won won' s join

      before-or : (u : ℕ) → won' u ≡ true → (won u ≡ true) ⊎ (s ≡ u)
      before-or = more-only won won' s join

      kept : (u : ℕ) → won u ≡ true → number' u ≡ number u
      kept u v = old u (λ d. clash (ap won d ∙ v) due.out)

      kept_in : (u : ℕ) → inside u ≡ true → number' u ≡ number u
      kept_in u x = kept u (w.taken u x).0

      found-old : (u : ℕ) → won u ≡ true → Found step mine inside number u → Found step mine inside number' u
      found-old u v f = let e = kept u v in record {
        next = λ p. let a = f.next (omega arith) in (a.0, a.1, a.2, e ∙ a.3 ∙ ap suc (sym (kept_in a.0 a.2)));
        each = λ p m x y. let a = f.each (omega arith) m x y in (a.0, omega (arith, a.1, kept_in x a.0));
      }

      found-new : Found step mine inside number' s
      found-new = record {
        next = λ p. (t, est, reached, new ∙ ap suc (sym (kept_in t reached ∙ is)));
        each = λ p m x y. let a = due.onto m x y in (a, omega (arith, new, kept_in x a, (w.taken x a).1));
      }

      below : (i : ℕ) → i < hi → get_or (set queue hi s) i 0 ≡ get_or queue i 0
      below = push-below queue hi s room

      top : get_or (set queue hi s) hi 0 ≡ s
      top = push-top queue hi s room

      -- the number of what is queued at i
      was : (i : ℕ) → i < hi → number' (get_or (set queue hi s) i 0) ≡ number (get_or queue i 0)
      was i b = ap number' (below i b) ∙ kept (get_or queue i 0) (w.queued i b).1

      is-new : number' (get_or (set queue hi s) hi 0) ≡ suc level
      is-new = ap number' top ∙ new

      queued-at : (i : ℕ) → i < hi + 1 → Dec (i < hi) → (get_or (set queue hi s) i 0 < n) × (won' (get_or (set queue hi s) i 0) ≡ true) × (number' (get_or (set queue hi s) i 0) ≤ i)
      queued-at i b (yes c) = let a = w.queued i c in (rw (below i c) a.0, ap won' (below i c) ∙ grows (get_or queue i 0) a.1, omega (arith, was i c, a.2))
      queued-at i b (no c) = let d : i ≡ hi = omega arith in rw d (rw top l, ap won' top ∙ self, omega (arith, is-new))

      ahead-at : (i : ℕ) → lo ≤ i → i < hi + 1 → Dec (i < hi) → level ≤ number' (get_or (set queue hi s) i 0)
      ahead-at i b c (yes d) = omega (arith, was i d, w.ahead i b d)
      ahead-at i b c (no d) = let e : i ≡ hi = omega arith in rw e (omega (arith, is-new))

      order-at : (i j : ℕ) → lo ≤ i → i ≤ j → j < hi + 1 → Dec (j < hi) → Dec (i < hi) → number' (get_or (set queue hi s) i 0) ≤ number' (get_or (set queue hi s) j 0)
      order-at i j a b c (yes d) _ = omega (arith, was i (omega arith), was j d, w.order i j a b d)
      order-at i j a b c (no d) (yes f) =
          let e : j ≡ hi = omega arith in
          let q = w.queued i f in
          rw e (omega (arith, is-new, was i f, w.most (get_or queue i 0) q.0 q.1))
      order-at i j a b c (no d) (no f) = let e : i ≡ j = omega arith in rw e (omega arith)

      pub search-join : Search n step mine won' inside number' (set queue hi s) lo (hi + 1) level more'
      search-join = record {
        found = λ u b v. ⊎_elim (λ x. found-old u x (w.found u b x)) (λ d. subst (Found step mine inside number') d found-new) (before-or u v);
        taken = λ u x. let a = w.taken u x in (grows u a.0, omega (arith, kept_in u x, a.1));
        most = λ u b v. ⊎_elim (λ x. omega (arith, kept u x, w.most u b x)) (λ d. subst (λ (a : ℕ). number' a ≤ suc level) d (omega (arith, new))) (before-or u v);
        queued = λ i b. queued-at i b (dec_lt i hi);
        range = omega (arith, w.range);
        fit = omega (arith, w.fit, count_less won won' n (λ u _. grows u) s l due.out self);
        ahead = λ i b c. ahead-at i b c (dec_lt i hi);
        order = λ i j a b c. order-at i j a b c (dec_lt j hi) (dec_lt i hi);
        waits = λ u b v.
            ⊎_elim (λ x. ⊎_elim inl (λ i. inr (i.0, i.1, omega (arith, i.2), below i.0 i.2 ∙ i.3)) (w.waits u b x))
            (λ d. inr (hi, w.range, omega arith, top ∙ d)) (before-or u v);
        mine_due = λ u x b m e y.
            let k = kept_in x y in
            ⊎_elim (λ a. inl (grows u a.0, omega (arith, a.1, kept u a.0)))
            (λ a. ⊎_elim (λ d. inl (subst (λ (z : ℕ). won' z ≡ true) d self, (let f : number' u ≡ suc level = ap number' (sym d) ∙ new in omega (arith, a.1)))) (λ z. inr (z, omega (arith, a.1))) (each u a.0))
            (w.mine_due u x b m e y);
        theirs_due = λ u b m f. ⊎_elim (λ a. inl (grows u a)) (λ a. ⊎_elim (λ d. inl (subst (λ (z : ℕ). won' z ≡ true) d self)) inr (each u a)) (w.theirs_due u b m f);
      }

  -- ---- the end

  pub search-last : Graph n step → (q won inside : ℕ → Bool) (number : ℕ → ℕ) (queue : List ℕ) (lo hi level : ℕ) → hi ≤ lo
      → ((s : ℕ) → s < n → q s ≡ eqb (number s) 0) → ((s : ℕ) → number s ≡ 0 → won s ≡ true)
      → Search n step mine won inside number queue lo hi level (λ _. false) → Ranks n step mine q won number
  search-last g q won inside number queue lo hi level over zeros zero w = record {
    here = λ s l e. let z = eqb-true (number s) 0 (sym (zeros s l) ∙ e) in (zero s z, z);
    mine_on = λ s l v e m. let a = (w.found s l v).next (pos s l e) in (a.0, a.1, won-in a.0 a.2, a.3);
    mine_least = λ s t l m e v. ⊎_elim (λ a. a) (λ a. clash a.0 refl) (w.mine_due s t l m e (done t (g.inside s t l e) v));
    theirs_on = λ s t l v e m h. let a = (w.found s l v).each (pos s l e) m t h in (won-in t a.0, a.1);
    theirs_most = λ s l v e m. let a = (w.found s l v).next (pos s l e) in (a.0, a.1, a.3);
    theirs_out = λ s l v m. ⊎_elim (λ a. (a.0, and_left (step s a.0) (not (won a.0)) a.2, false_of_not (won a.0) (and_right (step s a.0) (not (won a.0)) a.2)))
        (λ none. clash (kept s l m none) v) (find-below n (λ t. step s t && not (won t)));
  }
    where
      pos : (s : ℕ) → s < n → q s ≡ false → 0 < number s
      pos s l e = go (dec_lt 0 (number s))
        where
          go : Dec (0 < number s) → 0 < number s
          go (yes p) = p
          go (no p) = clash (zeros s l ∙ eq-eqb (number s) 0 (omega arith)) e

      won-in : (t : ℕ) → inside t ≡ true → won t ≡ true
      won-in t x = (w.taken t x).0

      done : (t : ℕ) → t < n → won t ≡ true → inside t ≡ true
      done t l v = ⊎_elim (λ x. x) (λ i. absurd (omega (arith, i.1, i.2))) (w.waits t l v)

      kept : (s : ℕ) → s < n → mine s ≡ false → ((t : ℕ) → t < n → (step s t && not (won t)) ≡ false) → won s ≡ true
      kept s l m none =
          ⊎_elim (λ v. v) (λ x. clash x refl)
          (w.theirs_due s l m (λ t e. ⊎_elim (λ v. done t (g.inside s t l e) v) (λ v. clash (and_both (step s t) (not (won t)) e (not_of_false (won t) v)) (none t (g.inside s t l e))) (split (won t))))
