-- A search by breadth: its start, a place taken from the queue, its predecessors one by one, and the end. Assumes nothing.
use mathlib.Core.Path.{◌≡◌, refl, sym, ap, ◌∙◌, subst}
use mathlib.Core.List.{List, ◌++◌}
use mathlib.Core.Bool.{Bool, true, false, not, ◌&&◌, ◌||◌}
use mathlib.Core.Logic.{◌⊎◌, inl, inr, ⊎_elim}
use Prim.Native.Nat.{ℕ, suc, ◌+◌, ◌≤◌, ◌<◌}
use native.Mathlib.Decide.{dec_lt, ℕ_discrete}
use native.Mathlib.Omega.{arith}
use lib.ListN.{length, get_or, set, get_or-append}
use lib.Seq.{get_or-set_same}
use lib.Dec.{eqb}
use Rattle.base.proofs.Bools.{split, clash, and_left, and_right, and_both, not_of_false, false_of_not}
use Rattle.bits.specs.Row.{count_below}
use Rattle.bits.proofs.Counts.{count-le, count_less, count-ext}
use Rattle.ctl.specs.Paths.{Graph}
use Rattle.ctl.proofs.Reach.{more-on, more-self, more-only}
use Rattle.graph.specs.Lists.{step}
use Rattle.graph.specs.Graphs.{Opposite}
use Rattle.worklist.proofs.Stack.{push-below, push-top, work-room}
use Rattle.forcing.specs.Numbers.{none, number_of, numbered}
use Rattle.forcing.specs.Search.{Started}
use Rattle.forcing.proofs.Steps.{numbered-some, numbered-none, set-numbered, set-kept}
use Rattle.lassos.specs.Distances.{Distances}
use Rattle.distances.specs.Search.{Search, Searched, Visiting, Found}

module _ (n : ℕ) (back : ℕ → ℕ → Bool) (p q : ℕ → Bool) where
  -- ---- the start

  pub search-first : (won : ℕ → Bool) (number : ℕ → ℕ) (queue : List ℕ) (h : ℕ) → ((i : ℕ) → i < h → (get_or queue i 0 < n) × (q (get_or queue i 0) ≡ true))
      → ((s : ℕ) → s < n → q s ≡ true → (i : ℕ) × (i < h) × (get_or queue i 0 ≡ s)) → h ≤ count_below q n
      → ((s : ℕ) → s < n → won s ≡ q s) → ((s : ℕ) → s < n → q s ≡ true → number s ≡ 0) → Search n back p q won number queue 0 h 0 (λ _. false)
  search-first won number queue h stacked each fit same zero = record {
    start = λ s l e. (same s l ∙ e, zero s l e);
    found = λ s l w e. clash (sym (same s l) ∙ w) e;
    queued = λ i l. let a = stacked i l in (a.0, same (get_or queue i 0) a.0 ∙ a.1, omega (arith, nil i l));
    each = λ s l w. each s l (sym (same s l) ∙ w);
    range = omega arith;
    fit = omega (arith, fit, count-ext won q n same);
    order = λ i j b l. omega (arith, nil i (omega arith));
    ahead = λ i b l. omega arith;
    most = λ i l. omega (arith, nil i l);
    due = λ s i l b. absurd (omega arith);
  }
    where
      nil : (i : ℕ) → i < h → number (get_or queue i 0) ≡ 0
      nil i l = let a = stacked i l in zero (get_or queue i 0) a.0 a.1

  -- ---- a place is taken from the queue

  pub search-take : (won : ℕ → Bool) (number : ℕ → ℕ) (queue : List ℕ) (lo hi level : ℕ) → lo < hi → Search n back p q won number queue lo hi level (λ _. false)
      → Search n back p q won number queue (lo + 1) hi (number (get_or queue lo 0)) (back (get_or queue lo 0))
  search-take won number queue lo hi level more w = record {
    start = w.start;
    found = w.found;
    queued = w.queued;
    each = w.each;
    range = omega arith;
    fit = w.fit;
    order = w.order;
    ahead = λ i b l. w.order lo i (omega arith) l;
    most = λ i l. omega (arith, w.most i l, w.ahead lo (omega arith) more);
    due = λ s i l b e x. go s i l b e x (dec_lt i lo);
  }
    where
      go : (s i : ℕ) → s < n → i < lo + 1 → p s ≡ true → back (get_or queue i 0) s ≡ true → Dec (i < lo)
          → ((won s ≡ true) × (number s ≤ suc (number (get_or queue i 0)))) ⊎ ((back (get_or queue lo 0) s ≡ true) × (number (get_or queue lo 0) ≤ number (get_or queue i 0)))
      go s i l b e x (yes c) = ⊎_elim inl (λ y. clash y.0 refl) (w.due s i l c e x)
      go s i l b e x (no c) = let d : lo ≡ i = omega arith in inr (ap (λ (j : ℕ). back (get_or queue j 0) s) d ∙ x, rw d (omega arith))

  -- ---- one predecessor s more is looked at: `more` loses it

  module _ (won : ℕ → Bool) (number : ℕ → ℕ) (queue : List ℕ) (lo hi level : ℕ) (more more' : ℕ → Bool) (s : ℕ)
      (left : (u : ℕ) → more u ≡ true → (s ≡ u) ⊎ (more' u ≡ true)) (w : Search n back p q won number queue lo hi level more) where
    low : (u : ℕ) → u < n → won u ≡ true → number u ≤ suc level
    low u l v = let i = w.each u l v in subst (λ (x : ℕ). number x ≤ suc level) i.2 (w.most i.0 i.1)

    pub search-skip : (won s ≡ false → p s ≡ true → ⊥) → Search n back p q won number queue lo hi level more'
    search-skip off = record {
      start = w.start;
      found = w.found;
      queued = w.queued;
      each = w.each;
      range = w.range;
      fit = w.fit;
      order = w.order;
      ahead = w.ahead;
      most = w.most;
      due = λ u i l b e x. ⊎_elim inl (λ y. ⊎_elim (λ d. inl (let v = has u d e in (v, omega (arith, low u l v, y.1)))) (λ z. inr (z, y.1)) (left u y.0)) (w.due u i l b e x);
    }
      where
        has : (u : ℕ) → s ≡ u → p u ≡ true → won u ≡ true
        has u d e = ⊎_elim (λ v. v) (λ v. absurd (off (ap won d ∙ v) (ap p d ∙ e))) (split (won u))

    module _ (won' : ℕ → Bool) (number' : ℕ → ℕ) (join : (j : ℕ) → won' j ≡ (won j || eqb s j)) (new : number' s ≡ suc level)
        (old : (j : ℕ) → (s ≡ j → ⊥) → number' j ≡ number j) (l : s < n) (room : hi < length queue) (small : level < hi) (t : ℕ) (lt : t < n)
        (est : back t s ≡ true) (has : won t ≡ true) (is : number t ≡ level) (out : won s ≡ false) (pass : p s ≡ true) where
      grows : (u : ℕ) → won u ≡ true → won' u ≡ true
      grows = more-on won won' s join

      self : won' s ≡ true
      self = more-self won won' s join

      before-or : (u : ℕ) → won' u ≡ true → (won u ≡ true) ⊎ (s ≡ u)
      before-or = more-only won won' s join

      kept : (u : ℕ) → won u ≡ true → number' u ≡ number u
      kept u v = old u (λ d. clash (ap won d ∙ v) out)

      below : (i : ℕ) → i < hi → get_or (set queue hi s) i 0 ≡ get_or queue i 0
      below = push-below queue hi s room

      top : get_or (set queue hi s) hi 0 ≡ s
      top = push-top queue hi s room

      -- the number of what is queued at i
      was : (i : ℕ) → i < hi → number' (get_or (set queue hi s) i 0) ≡ number (get_or queue i 0)
      was i b = ap number' (below i b) ∙ kept (get_or queue i 0) (w.queued i b).1

      is-new : number' (get_or (set queue hi s) hi 0) ≡ suc level
      is-new = ap number' top ∙ new

      -- what is true of each place that was queued, and of s, at the positions up to hi
      at_each : (P : ℕ → ℕ → Type 0) → ((i : ℕ) → i < hi → P i (number (get_or queue i 0))) → P hi (suc level) → (i : ℕ) → i < hi + 1 → P i (number' (get_or (set queue hi s) i 0))
      at_each P f x i b = go (dec_lt i hi)
        where
          go : Dec (i < hi) → P i (number' (get_or (set queue hi s) i 0))
          go (yes c) = rw (was i c) (f i c)
          go (no c) = let d : i ≡ hi = omega arith in rw (d, is-new) x

      queued-at : (i : ℕ) → i < hi + 1 → Dec (i < hi) → (get_or (set queue hi s) i 0 < n) × (won' (get_or (set queue hi s) i 0) ≡ true)
      queued-at i b (yes c) = let a = w.queued i c in (rw (below i c) a.0, ap won' (below i c) ∙ grows (get_or queue i 0) a.1)
      queued-at i b (no c) = let d : i ≡ hi = omega arith in rw d (rw top l, ap won' top ∙ self)

      order-at : (i j : ℕ) → i ≤ j → j < hi + 1 → Dec (j < hi) → number' (get_or (set queue hi s) i 0) ≤ number' (get_or (set queue hi s) j 0)
      order-at i j b c (yes d) = omega (arith, was i (omega arith), was j d, w.order i j b d)
      order-at i j b c (no d) =
          let e : j ≡ hi = omega arith in
          rw (e, is-new) (at_each (λ _ x. x ≤ suc level) (λ m f. w.most m f) (omega arith) i (omega arith))

      found_at : (u : ℕ) → u < n → q u ≡ false → (won u ≡ true) ⊎ (s ≡ u) → (t : ℕ) × (t < n) × (p u ≡ true) × (back t u ≡ true) × (won' t ≡ true) × (number' u ≡ suc (number' t))
      found_at u b e (inl v) = let a = w.found u b v e in (a.0, a.1, a.2, a.3, grows a.0 a.4, kept u v ∙ a.5 ∙ ap suc (sym (kept a.0 a.4)))
      found_at u b e (inr d) = (t, lt, ap p (sym d) ∙ pass, ap (back t) (sym d) ∙ est, grows t has, ap number' (sym d) ∙ new ∙ ap suc (sym (kept t has ∙ is)))

      pub search-join : Search n back p q won' number' (set queue hi s) lo (hi + 1) level more'
      search-join = record {
        start = λ u b e. let a = w.start u b e in (grows u a.0, kept u a.0 ∙ a.1);
        found = λ u b v e. found_at u b e (before-or u v);
        queued = λ i b. let a = queued-at i b (dec_lt i hi) in (a.0, a.1, at_each (λ j x. x ≤ j) (λ j c. (w.queued j c).2) small i b);
        each = λ u b v. ⊎_elim (λ x. let i = w.each u b x in (i.0, omega (arith, i.1), below i.0 i.1 ∙ i.2)) (λ d. (hi, omega arith, top ∙ d)) (before-or u v);
        range = omega (arith, w.range);
        fit = omega (arith, w.fit, count_less won won' n (λ u _. grows u) s l out self);
        order = λ i j b c. order-at i j b c (dec_lt j hi);
        ahead = λ i b c. at_each (λ j x. lo ≤ j → level ≤ x) (λ j e d. w.ahead j d e) (λ _. omega arith) i c b;
        most = at_each (λ _ x. x ≤ suc level) (λ j c. w.most j c) (omega arith);
        due = λ u i b c e x.
            let f : i < hi = omega (arith, w.range) in
            ⊎_elim (λ a. inl (grows u a.0, omega (arith, a.1, kept u a.0, was i f)))
            (λ a. ⊎_elim (λ d. inl (ap won' (sym d) ∙ self, (let y : number' u ≡ suc level = ap number' (sym d) ∙ new in omega (arith, a.1, was i f)))) (λ z. inr (z, omega (arith, a.1, was i f))) (left u a.0))
            (w.due u i b c e (ap (λ (y : ℕ). back y u) (sym (below i f)) ∙ x));
      }

  -- ---- the end

  pub search-last : (won : ℕ → Bool) (number : ℕ → ℕ) (queue : List ℕ) (lo hi level : ℕ) → hi ≤ lo → Search n back p q won number queue lo hi level (λ _. false)
      → (steps : ℕ → ℕ → Bool) → Graph n steps → Opposite n steps back → Distances n steps p q won number
  search-last won number queue lo hi level over w steps g o = record { here = w.start; on = on; back = λ s t l e x v. again s t l e x v (ℕ_discrete s t) }
    where
      on : (s : ℕ) → s < n → won s ≡ true → q s ≡ false → (t : ℕ) × (p s ≡ true) × (steps s t ≡ true) × (won t ≡ true) × (number s ≡ suc (number t))
      on s l v e =
          let a = w.found s l v e in
          (a.0, a.2, sym (o.turned s a.0 l a.1 (λ d. let y : number s ≡ number a.0 = ap number d in omega (arith, a.5))) ∙ a.3, a.4, a.5)

      again : (s t : ℕ) → s < n → p s ≡ true → steps s t ≡ true → won t ≡ true → Dec (s ≡ t) → (won s ≡ true) × (number s ≤ suc (number t))
      again s t l e x v (yes d) = (ap won d ∙ v, (let y : number s ≡ number t = ap number d in omega arith))
      again s t l e x v (no d) =
          let b = g.inside s t l x in
          let i = w.each t b v in
          ⊎_elim (λ a. (a.0, subst (λ (y : ℕ). number s ≤ suc (number y)) i.2 a.1)) (λ a. clash a.0 refl)
          (w.due s i.0 l (omega (arith, i.1)) e (ap (λ (y : ℕ). back y s) i.2 ∙ o.turned s t l b d ∙ x))

-- ---- the search over lists

-- the places of q have the number 0 and are queued
pub searched-first : (entry chain from : List ℕ) (p q : ℕ → Bool) (numbers queue : List ℕ) (h : ℕ) → Started q (length entry) numbers queue h → Searched entry chain from p q numbers queue 0 h
searched-first entry chain from p q numbers queue h w = record {
  level = 0;
  search = search-first (length entry) (step entry chain from) p q (numbered numbers) (number_of numbers) queue h w.gathered.stacked w.gathered.each w.gathered.fit same w.inside;
}
  where
    same : (s : ℕ) → s < length entry → numbered numbers s ≡ q s
    same s l =
        ⊎_elim (λ x. numbered-some numbers s (λ y. omega (arith, y, w.inside s l x)) ∙ sym x) (λ x. numbered-none numbers s (w.outside s l x) ∙ sym x) (split (q s))

module _ (entry chain from : List ℕ) (p q : ℕ → Bool) (numbers queue : List ℕ) (at hi : ℕ) (w : Searched entry chain from p q numbers queue at hi) where
  pub searched-low : at < hi → (at < length entry) × (get_or queue at 0 < length entry) × (number_of numbers (get_or queue at 0) ≤ at)
  searched-low more =
      let a = w.search.queued at more in
      (omega (arith, w.search.fit, count-le (numbered numbers) (length entry)), a.0, a.2)

  pub visiting-first : at < hi → Visiting entry chain from p q numbers queue (get_or queue at 0) (at + 1) hi (number_of numbers (get_or queue at 0)) (step entry chain from (get_or queue at 0))
  visiting-first more =
      let a = w.search.queued at more in
      record {
        inside = a.0;
        has = a.1;
        is = refl;
        low = omega (arith, a.2);
        search = search-take (length entry) (step entry chain from) p q (numbered numbers) (number_of numbers) queue at hi w.level more w.search;
      }

  pub searched-last : hi ≤ at → Found (length entry) (step entry chain from) p q numbers
  searched-last over = record { distances = search-last (length entry) (step entry chain from) p q (numbered numbers) (number_of numbers) queue at hi w.level over w.search }

module _ (entry chain from : List ℕ) (p q : ℕ → Bool) (numbers queue : List ℕ) (t lo hi level : ℕ) (more : ℕ → Bool) (v : Visiting entry chain from p q numbers queue t lo hi level more) where
  -- where no predecessor is left, none is due
  pub visiting-last : ((s : ℕ) → more s ≡ false) → Searched entry chain from p q numbers queue lo hi
  visiting-last off =
      let w = v.search in record {
        level = level;
        search = record {
          start = w.start;
          found = w.found;
          queued = w.queued;
          each = w.each;
          range = w.range;
          fit = w.fit;
          order = w.order;
          ahead = w.ahead;
          most = w.most;
          due = λ s i l b e x. ⊎_elim inl (λ y. clash y.0 (off s)) (w.due s i l b e x);
        };
      }

  module _ (more' : ℕ → Bool) (s : ℕ) (left : (u : ℕ) → more u ≡ true → (s ≡ u) ⊎ (more' u ≡ true)) where
    pub visiting-skip : (not (numbered numbers s) && p s) ≡ false → Visiting entry chain from p q numbers queue t lo hi level more'
    visiting-skip off = record {
      inside = v.inside;
      has = v.has;
      is = v.is;
      low = v.low;
      search = search-skip (length entry) (step entry chain from) p q (numbered numbers) (number_of numbers) queue lo hi level more more' s left v.search (λ e x. clash (and_both (not (numbered numbers s)) (p s) (not_of_false (numbered numbers s) e) x) off);
    }

    module _ (l : s < length entry) (size : length numbers ≡ length entry) (on : (not (numbered numbers s) && p s) ≡ true) where
      out : numbered numbers s ≡ false
      out = false_of_not (numbered numbers s) (and_left (not (numbered numbers s)) (p s) on)

      -- a place without a number leaves room in the queue
      pub visiting-room : hi < length entry
      visiting-room = work-room (numbered numbers) (length entry) hi s v.search.fit l out

      pub visiting-join : length entry ≤ length queue → length entry ≤ 65536 → step entry chain from t s ≡ true → Visiting entry chain from p q (set numbers s (level + 1)) (set queue hi s) t lo (hi + 1) level more'
      visiting-join room small est = record {
        inside = v.inside;
        has = ap (λ (x : ℕ). not (eqb x none)) kept ∙ v.has;
        is = kept ∙ v.is;
        low = v.low;
        search = search-join (length entry) (step entry chain from) p q (numbered numbers) (number_of numbers) queue lo hi level more more' s left v.search
            (numbered (set numbers s (level + 1))) (number_of (set numbers s (level + 1))) (set-numbered numbers s (level + 1) inside few) (get_or-set_same numbers s (level + 1) 0 inside ∙ (let e : level + 1 ≡ suc level = omega arith in e))
            (set-kept numbers s (level + 1) inside few) l (omega (arith, visiting-room)) (omega (arith, v.low, v.search.range)) t v.inside est v.has v.is out (and_right (not (numbered numbers s)) (p s) on);
      }
        where
          inside : s < length numbers
          inside = omega arith

          few : level + 1 < none
          few = omega (arith, v.low, v.search.range, v.search.fit, count-le (numbered numbers) (length entry))

          kept : number_of (set numbers s (level + 1)) t ≡ number_of numbers t
          kept = set-kept numbers s (level + 1) inside few t (λ d. clash (ap (numbered numbers) d ∙ v.has) out)

-- numbers with more behind them
pub found_front : (n : ℕ) (back : ℕ → ℕ → Bool) (p q : ℕ → Bool) (numbers after : List ℕ) → length numbers ≡ n → Found n back p q numbers → Found n back p q (numbers ++ after)
found_front n back p q numbers after e f = record { distances = λ steps g o. front steps g (f.distances steps g o) }
  where
    same : (s : ℕ) → s < n → number_of (numbers ++ after) s ≡ number_of numbers s
    same s l = get_or-append numbers after 0 s (omega (arith, e))

    front : (steps : ℕ → ℕ → Bool) → Graph n steps → Distances n steps p q (numbered numbers) (number_of numbers) → Distances n steps p q (numbered (numbers ++ after)) (number_of (numbers ++ after))
    front steps g d = record {
      here = λ s l x. let a = d.here s l x in (has s l ∙ a.0, same s l ∙ a.1);
      on = λ s l v x. let a = d.on s l (sym (has s l) ∙ v) x in let i = g.inside s a.0 l a.2 in (a.0, a.1, a.2, has a.0 i ∙ a.3, same s l ∙ a.4 ∙ ap suc (sym (same a.0 i)));
      back = λ s t l x h v. let i = g.inside s t l h in let a = d.back s t l x h (sym (has t i) ∙ v) in (has s l ∙ a.0, omega (arith, a.1, same s l, same t i));
    }
      where
        has : (s : ℕ) → s < n → numbered (numbers ++ after) s ≡ numbered numbers s
        has s l = ap (λ (x : ℕ). not (eqb x none)) (same s l)
