-- The search over lists: one number more, whether a place joins, and what each step of the functions makes of the records.
-- Assumes nothing.
use mathlib.Core.Path.{◌≡◌, refl, sym, ap, ◌∙◌, subst}
use mathlib.Core.List.{List}
use mathlib.Core.Bool.{Bool, true, false, not, ◌||◌, or-false}
use mathlib.Core.Logic.{◌⊎◌, inl, ◌↔◌, ⊎_elim}
use Prim.Native.Nat.{ℕ, suc, ◌+◌, ◌-◌, ◌≤◌, ◌<◌}
use native.Mathlib.Decide.{ℕ_discrete}
use native.Mathlib.Omega.{arith}
use lib.ListN.{length, get_or, set}
use lib.Seq.{get_or-set_same, get_or-set_other}
use lib.Dec.{eqb}
use borrow.Author.Count.{below_more}
use borrow.Author.Tests.{eqb-true, eq-eqb, ne_eqb}
use Rattle.base.proofs.Bools.{split, clash, or_right, true_of_not}
use Rattle.bits.proofs.Counts.{count-le}
use Rattle.ctl.specs.Paths.{Graph}
use Rattle.ctl.proofs.Reach.{more-on, more-self}
use Rattle.graph.specs.Lists.{step, listed, Linked}
use Rattle.graph.specs.Graphs.{Opposite}
use Rattle.graph.proofs.Lists.{listed-end}
use Rattle.graph.proofs.Walk.{passed_first}
use Rattle.games.specs.Ranks.{Ranks}
use Rattle.worklist.specs.Worklist.{Skipped, Rest}
use Rattle.worklist.proofs.Rest.{rest-first, rest-grow, skipped-onto}
use Rattle.worklist.proofs.Stack.{gather_none, gather-skip, gather-join, Walked, walk-low}
use Rattle.forcing.specs.Numbers.{none, number_of, numbered}
use Rattle.forcing.specs.Search.{Due, Started, SearchIn, Visit, Visited}
use Rattle.forcing.proofs.Search.{search-first, search-take, search-skip, search-join, search-last}

-- ---- the start

pub started_none : (q : ℕ → Bool) (numbers queue : List ℕ) → Started q 0 numbers queue 0
started_none q numbers queue = record { gathered = gather_none q 0 queue (omega arith); inside = λ s l. absurd (omega arith); outside = λ s l. absurd (omega arith) }

module _ (q : ℕ → Bool) (numbers queue : List ℕ) (m h : ℕ) (w : Started q m numbers queue h) (room : m < length numbers) where
  before : (v s : ℕ) → s < m → number_of (set numbers m v) s ≡ number_of numbers s
  before v s l = get_or-set_other numbers m s v 0 (omega arith)

  pub started-skip : q m ≡ false → Started q (m + 1) (set numbers m none) queue h
  started-skip e = record {
    gathered = gather-skip q queue m h w.gathered e;
    inside = below_more (λ s. q s ≡ true → number_of (set numbers m none) s ≡ 0) m (λ s l x. before none s l ∙ w.inside s l x) (λ x. clash x e);
    outside = below_more (λ s. q s ≡ false → number_of (set numbers m none) s ≡ none) m (λ s l x. before none s l ∙ w.outside s l x) (λ _. get_or-set_same numbers m none 0 room);
  }

  pub started-join : q m ≡ true → h < length queue → Started q (m + 1) (set numbers m 0) (set queue h m) (h + 1)
  started-join e r = record {
    gathered = gather-join q queue m h w.gathered e r;
    inside = below_more (λ s. q s ≡ true → number_of (set numbers m 0) s ≡ 0) m (λ s l x. before 0 s l ∙ w.inside s l x) (λ _. get_or-set_same numbers m 0 0 room);
    outside = below_more (λ s. q s ≡ false → number_of (set numbers m 0) s ≡ none) m (λ s l x. before 0 s l ∙ w.outside s l x) (λ x. clash e x);
  }

-- ---- whether a place is numbered

pub numbered-some : (numbers : List ℕ) (s : ℕ) → (number_of numbers s ≡ none → ⊥) → numbered numbers s ≡ true
numbered-some numbers s f = ap not (ne_eqb (number_of numbers s) none f)

pub numbered-none : (numbers : List ℕ) (s : ℕ) → number_of numbers s ≡ none → numbered numbers s ≡ false
numbered-none numbers s e = ap not (eq-eqb (number_of numbers s) none e)

pub none-numbered : (numbers : List ℕ) (s : ℕ) → numbered numbers s ≡ false → number_of numbers s ≡ none
none-numbered numbers s e = eqb-true (number_of numbers s) none (true_of_not (eqb (number_of numbers s) none) e)

-- ---- whether a place joins, test by test

module _ (head link to : List ℕ) (mine inside : ℕ → Bool) (numbers : List ℕ) (s : ℕ) where
  abbrev Is : Type 0
  Is = Due (step head link to) mine (numbered numbers) inside s

  pub due-numbered : (number_of numbers s ≡ none → ⊥) → (false ≡ true) ↔ Is
  due-numbered f = (λ x. clash x refl, λ j. clash (numbered-some numbers s f) j.out)

  module _ (e : number_of numbers s ≡ none) where
    pub due-mine : mine s ≡ true → (true ≡ true) ↔ Is
    due-mine m = (λ _. record { out = numbered-none numbers s e; onto = λ x. clash m x }, λ _. refl)

    pub due-theirs : (rest : List ℕ) (k : ℕ) → mine s ≡ false → Linked head link to → Rest head link to rest inside → Skipped link to inside (get_or rest s 0) k → (eqb k 0 ≡ true) ↔ Is
    due-theirs rest k m l r w =
        let o = skipped-onto head link to rest inside s k l r w in
        (λ x. record { out = numbered-none numbers s e; onto = λ _. o.0 x }, λ j. o.1 (j.onto m))

-- ---- one number more

module _ (numbers : List ℕ) (s v : ℕ) (room : s < length numbers) (some : v < none) where
  pub set-numbered : (j : ℕ) → numbered (set numbers s v) j ≡ (numbered numbers j || eqb s j)
  set-numbered j = go (ℕ_discrete s j)
    where
      go : Dec (s ≡ j) → numbered (set numbers s v) j ≡ (numbered numbers j || eqb s j)
      go (yes d) =
          subst (λ (i : ℕ). numbered (set numbers s v) i ≡ (numbered numbers i || eqb s i)) d
          (numbered-some (set numbers s v) s (λ x. let y : v ≡ none = sym (get_or-set_same numbers s v 0 room) ∙ x in omega arith) ∙ sym (or_right (numbered numbers s) (eqb s s) (eq-eqb s s refl)))
      go (no d) =
          ap (λ (x : ℕ). not (eqb x none)) (get_or-set_other numbers s j v 0 (λ x. d (sym x)))
          ∙ sym (ap (λ (x : Bool). numbered numbers j || x) (ne_eqb s j d) ∙ or-false (numbered numbers j))

  pub set-kept : (j : ℕ) → (s ≡ j → ⊥) → number_of (set numbers s v) j ≡ number_of numbers j
  set-kept j d = get_or-set_other numbers s j v 0 (λ x. d (sym x))

  pub set-zeros : 0 < v → number_of numbers s ≡ none → (j : ℕ) → eqb (number_of (set numbers s v) j) 0 ≡ eqb (number_of numbers j) 0
  set-zeros p e j = go (ℕ_discrete s j)
    where
      go : Dec (s ≡ j) → eqb (number_of (set numbers s v) j) 0 ≡ eqb (number_of numbers j) 0
      go (yes d) =
          subst (λ (i : ℕ). eqb (number_of (set numbers s v) i) 0 ≡ eqb (number_of numbers i) 0) d
          (ne_eqb (number_of (set numbers s v) s) 0 (λ x. let y : v ≡ 0 = sym (get_or-set_same numbers s v 0 room) ∙ x in omega arith) ∙ sym (ne_eqb (number_of numbers s) 0 (λ x. omega (arith, e))))
      go (no d) = ap (λ (x : ℕ). eqb x 0) (set-kept j d)

-- ---- visiting

pub visited-first : (head link to : List ℕ) (mine inside : ℕ → Bool) (rest numbers queue : List ℕ) (lo hi level : ℕ) (more : ℕ → Bool) → Rest head link to rest inside → SearchIn head link to mine inside numbers queue lo hi level more
    → Visited head link to mine inside rest numbers numbers queue lo hi level more
visited-first head link to mine inside rest numbers queue lo hi level more r w = record { seen = r; search = w; kept = λ s e. refl; zeros = λ s. refl }

-- where no predecessor is left, none is due
pub visited-last : (head link to : List ℕ) (mine inside : ℕ → Bool) (rest old numbers queue : List ℕ) (lo hi level : ℕ) (chain from : List ℕ) (m : ℕ) → m ≤ 0
    → Visited head link to mine inside rest old numbers queue lo hi level (listed chain from m) → Visited head link to mine inside rest old numbers queue lo hi level (λ _. false)
visited-last head link to mine inside rest old numbers queue lo hi level chain from m e v = record {
  seen = v.seen;
  search = record {
    found = v.search.found;
    taken = v.search.taken;
    most = v.search.most;
    queued = v.search.queued;
    range = v.search.range;
    fit = v.search.fit;
    ahead = v.search.ahead;
    order = v.search.order;
    waits = v.search.waits;
    mine_due = λ s t l m e x. ⊎_elim inl (λ y. off s y.0) (v.search.mine_due s t l m e x);
    theirs_due = λ s l m o. ⊎_elim inl (off s) (v.search.theirs_due s l m o);
  };
  kept = v.kept;
  zeros = v.zeros;
}
  where
    off : (s : ℕ) {X : Type 0} → listed chain from m s ≡ true → X
    off s x = let d : m ≡ 0 = omega arith in clash x (ap (λ (i : ℕ). listed chain from i s) d ∙ listed-end chain from s)

module _ (head link to : List ℕ) (mine inside : ℕ → Bool) (rest rest' old numbers queue : List ℕ) (lo hi level : ℕ) (more more' : ℕ → Bool) (s : ℕ)
    (each : (u : ℕ) → more u ≡ true → (s ≡ u) ⊎ (more' u ≡ true)) (w : Visited head link to mine inside rest old numbers queue lo hi level more) (r : Rest head link to rest' inside) where
  pub visited-skip : (Due (step head link to) mine (numbered numbers) inside s → ⊥) → Visited head link to mine inside rest' old numbers queue lo hi level more'
  visited-skip off = record {
    seen = r;
    search = search-skip (length head) (step head link to) mine (numbered numbers) inside (number_of numbers) queue lo hi level more more' s each w.search off;
    kept = w.kept;
    zeros = w.zeros;
  }

  pub visited-join : s < length head → s < length numbers → hi < length queue → level < hi → level < 65536 → (t : ℕ) → step head link to s t ≡ true → inside t ≡ true → number_of old t ≡ level
      → Due (step head link to) mine (numbered numbers) inside s → numbered old t ≡ true → Visited head link to mine inside rest' old (set numbers s (level + 1)) (set queue hi s) lo (hi + 1) level more'
  visited-join l room queue_room low small t est reached is due has = record {
    seen = r;
    search = search-join (length head) (step head link to) mine (numbered numbers) inside (number_of numbers) queue lo hi level more more' s each w.search
        (numbered (set numbers s (level + 1))) (number_of (set numbers s (level + 1))) (set-numbered numbers s (level + 1) room (omega arith))
        (get_or-set_same numbers s (level + 1) 0 room ∙ (let e : level + 1 ≡ suc level = omega arith in e)) (set-kept numbers s (level + 1) room (omega arith))
        l queue_room low t est reached (w.kept t has ∙ is) due;
    kept = λ u e. set-kept numbers s (level + 1) room (omega arith) u (λ d. gone u e d) ∙ w.kept u e;
    zeros = λ u. set-zeros numbers s (level + 1) room (omega arith) (omega arith) (none-numbered numbers s due.out) u ∙ w.zeros u;
  }
    where
      gone : (u : ℕ) → numbered old u ≡ true → s ≡ u → ⊥
      gone u e d = clash (ap (λ (x : ℕ). not (eqb x none)) (w.kept u e) ∙ e) (ap (numbered numbers) (sym d) ∙ due.out)

-- a place s on the list of predecessors of t, and not t, steps to t
module _ (entry chain from : List ℕ) (n t k : ℕ) (w : Walked entry chain from n t k) (pos : 0 < k) (s : ℕ) (es : s ≡ get_or from (k - 1) 0) where
  pub walk_step : (steps : ℕ → ℕ → Bool) → Opposite n steps (step entry chain from) → t < n → (s ≡ t → ⊥) → steps s t ≡ true
  walk_step steps o l d =
      sym (o.turned s t (walk-low entry chain from n t k w pos s es) l d) ∙ ap (listed chain from (get_or entry t 0)) es ∙ passed_first chain from n (λ _. true) false (get_or entry t 0) k w pos

-- the place whose predecessors are visited
module _ (head link to : List ℕ) (mine inside : ℕ → Bool) (rest numbers queue : List ℕ) (at hi : ℕ) (more : ℕ → Bool) (v : Visit head link to mine inside rest numbers queue at hi more) where
  abbrev place : ℕ
  place = get_or queue at 0

  pub visit-low : (at < length head) × (place < length head) × (number_of numbers place ≤ at) × (numbered numbers place ≡ true)
  visit-low =
      let q = v.search.queued at v.below in
      (omega (arith, v.below, v.search.fit, count-le (numbered numbers) (length head)), q.0, q.2, q.1)

-- ---- the search, from the first to the last place of the queue

module _ (head link to : List ℕ) (mine goal : ℕ → Bool) where
  abbrev n : ℕ
  n = length head

  -- the places of the queue before `at` were taken from it; the places of the goal have the number 0, and no others
  pub record Going (inside : ℕ → Bool) (rest numbers queue : List ℕ) (at hi : ℕ) : Type 0 where
    pub seen : Rest head link to rest inside
    pub zeros : (s : ℕ) → s < length head → goal s ≡ eqb (number_of numbers s) 0
    pub level : ℕ
    pub search : SearchIn head link to mine inside numbers queue at hi level (λ _. false)

  zero-some : (numbers : List ℕ) (s : ℕ) → number_of numbers s ≡ 0 → numbered numbers s ≡ true
  zero-some numbers s e = numbered-some numbers s (λ x. omega (arith, e, x))

  pub going-first : Graph n (step head link to) → (inside : ℕ → Bool) (rest numbers queue : List ℕ) (h : ℕ) → Started goal n numbers queue h → ((s : ℕ) → inside s ≡ false) → rest ≡ head → Going inside rest numbers queue 0 h
  going-first g inside rest numbers queue h w empty e = record {
    seen = rest-first head link to rest inside e;
    zeros = λ s l. ⊎_elim (λ x. x ∙ sym (eq-eqb (number_of numbers s) 0 (w.inside s l x))) (λ x. x ∙ sym (ne_eqb (number_of numbers s) 0 (λ y. omega (arith, y, w.outside s l x)))) (split (goal s));
    level = 0;
    search = search-first n (step head link to) mine g goal (numbered numbers) inside (number_of numbers) queue h w.gathered
        (λ s l. ⊎_elim (λ x. zero-some numbers s (w.inside s l x) ∙ sym x) (λ x. numbered-none numbers s (w.outside s l x) ∙ sym x) (split (goal s))) w.inside empty;
  }

  module _ (inside : ℕ → Bool) (rest numbers queue : List ℕ) (at hi : ℕ) (w : Going inside rest numbers queue at hi) where
    pub going-low : at < hi → (at < n) × (get_or queue at 0 < n)
    going-low more = (omega (arith, w.search.fit, count-le (numbered numbers) n), (w.search.queued at more).0)

    pub going-take : at < hi → (inside' : ℕ → Bool) → ((j : ℕ) → inside' j ≡ (inside j || eqb (get_or queue at 0) j)) → (back : ℕ → ℕ → Bool) → Opposite n (step head link to) back
        → Visit head link to mine inside' rest numbers queue at hi (back (get_or queue at 0))
    going-take more inside' add back o = record {
      below = more;
      reached = more-self inside inside' (get_or queue at 0) add;
      seen = rest-grow head link to rest inside inside' (more-on inside inside' (get_or queue at 0) add) w.seen;
      search = search-take n (step head link to) mine (numbered numbers) inside inside' (number_of numbers) queue at hi w.level (get_or queue at 0) refl add w.search more back o;
    }

    pub going_next : (inside' : ℕ → Bool) (rest' numbers' queue' : List ℕ) (hi' level : ℕ) → Visited head link to mine inside' rest' numbers numbers' queue' (at + 1) hi' level (λ _. false)
        → Going inside' rest' numbers' queue' (at + 1) hi'
    going_next inside' rest' numbers' queue' hi' level v = record { seen = v.seen; zeros = λ s l. w.zeros s l ∙ sym (v.zeros s); level = level; search = v.search }

    pub going-last : Graph n (step head link to) → hi ≤ at → Ranks n (step head link to) mine goal (numbered numbers) (number_of numbers)
    going-last g over = search-last n (step head link to) mine g goal (numbered numbers) inside (number_of numbers) queue at hi w.level over w.zeros (zero-some numbers) w.search
