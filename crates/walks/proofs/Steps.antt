-- Words of a path one by one, and what each step of a walk makes of the records. Assumes nothing.
use mathlib.Core.Path.{◌≡◌, refl, sym, ap, ◌∙◌}
use mathlib.Core.List.{List, [], ◌∷◌, ◌++◌}
use mathlib.Core.Bool.{Bool, true, false, not}
use mathlib.Core.Logic.{◌⊎◌, inl, inr, ⊎_elim}
use Prim.Native.Nat.{ℕ, zero, suc, ◌+◌, ◌-◌, ◌≤◌, ◌<◌}
use native.Mathlib.Decide.{ℕ_discrete}
use native.Mathlib.Omega.{arith}
use lib.ListN.{length, get_or, set, length-set}
use lib.Seq.{get_or-set_same, get_or-set_other}
use lib.Dec.{eqb}
use borrow.Author.Tests.{eq-eqb, ne_eqb}
use Rattle.base.proofs.Bools.{split, clash}
use Rattle.bits.specs.Row.{count_below}
use Rattle.bits.proofs.Counts.{count-le, count_less}
use Rattle.ctl.specs.Paths.{Graph}
use Rattle.graph.specs.Lists.{step, listed, Linked, From}
use Rattle.graph.proofs.Lists.{listed-end}
use Rattle.graph.proofs.Walk.{Passed, linked-from, passed_none, passed-room, passed_first, passed-split, passed-next}
use Rattle.worklist.specs.Worklist.{Skipped}
use Rattle.worklist.proofs.Stack.{work-room}
use Rattle.forcing.specs.Numbers.{none, number_of, numbered}
use Rattle.forcing.proofs.Steps.{numbered-some, numbered-none}
use Rattle.lassos.specs.Lassos.{place, Way}
use Rattle.lassos.specs.Distances.{Distances}
use Rattle.lassos.proofs.Ways.{way-inside, more-length, more-front, more-end, more-last, more-each, way-front, way-last, way-one, way-more}
use Rattle.lassos.proofs.Shortest.{number-below}
use Rattle.walks.specs.Told.{Told}
use Rattle.walks.specs.Walks.{Nearest, Numbered, SomeNumbered, Walked, Endless, SomeEndless, Circled}
use Rattle.walks.specs.declared.Trail.{Trail}

-- ---- one word more

pub told_none : (at : ℕ) (ws : List ℕ) → Told at [] ws ws
told_none at ws = record { same = refl; words = λ i l. absurd (omega arith); before = λ i l. refl; past = λ i l. refl }

module _ (at : ℕ) (ls old new : List ℕ) (w : Told at ls old new) (x k : ℕ) (is : k ≡ at + length ls) (room : k < length old) where
  other : (i : ℕ) → (i ≡ k → ⊥) → get_or (set new k (x + 1)) i 0 ≡ get_or new i 0
  other i d = get_or-set_other new k i (x + 1) 0 d

  pub told_more : Told at (ls ++ x ∷ []) old (set new k (x + 1))
  told_more = record {
    same = length-set new k (x + 1) ∙ w.same;
    words = more-each ls x (λ i y. get_or (set new k (x + 1)) (at + i) 0 ≡ suc y) (λ i l. other (at + i) (λ d. omega arith) ∙ w.words i l)
        (let e : x + 1 ≡ suc x = omega arith in rw (← is) (get_or-set_same new k (x + 1) 0 (omega (arith, w.same)) ∙ e));
    before = λ i l. other i (λ d. omega arith) ∙ w.before i l;
    past = λ i l. other i (λ d. omega (arith, more-length ls x)) ∙ w.past i (omega (arith, more-length ls x));
  }

-- ---- along the edges of a place

-- a list with a place on it has a first edge
pub listed-some : (link to : List ℕ) (k t : ℕ) → listed link to k t ≡ true → 0 < k
listed-some link to zero t e = clash e (listed-end link to t)
listed-some link to (suc k) t e = omega arith

-- the target at a position is on the list from there on
pub listed-target : (link to : List ℕ) (n k : ℕ) → From link to n k → 0 < k → listed link to k (get_or to (k - 1) 0) ≡ true
listed-target link to n k f pos = passed_first link to n (λ _. true) false k k (passed_none link to n (λ _. true) false k f) pos

-- a place of a graph has an edge
pub edges-of : (head link to : List ℕ) (s : ℕ) → Linked head link to → Graph (length head) (step head link to) → s < length head → (k : ℕ) → k ≡ get_or head s 0
    → From link to (length head) k × (0 < k) × (k - 1 < length link) × (k - 1 < length to)
edges-of head link to s l g b k e =
    let f : From link to (length head) k = rw e (linked-from head link to s l) in
    let o = g.onward s b in
    let pos : 0 < k = rw e (listed-some link to (get_or head s 0) o.0 o.1) in
    (f, pos, omega (arith, f.low, f.edges.link_room), omega (arith, f.low, f.edges.to_room))

module _ (link to : List ℕ) (n : ℕ) (numbers : List ℕ) (start : ℕ) where
  -- the edges before k were passed, and none of their targets has a smaller number than `best`
  pub record Nearing (k best : ℕ) : Type 0 where
    pub passed : Passed link to n (λ _. true) false start k
    pub low : best < n
    pub goes : listed link to start best ≡ true
    pub least : (t : ℕ) → listed link to start t ≡ true → (number_of numbers best ≤ number_of numbers t) ⊎ (listed link to k t ≡ true)

  pub nearing-first : From link to n start → 0 < start → (k best : ℕ) → k ≡ get_or link (start - 1) 0 → best ≡ get_or to (start - 1) 0 → Nearing k best
  nearing-first f pos k best ek eb =
      let w = passed_none link to n (λ _. true) false start f in
      record {
        passed = passed-next link to n (λ _. true) false start start w pos k ek (λ e. clash refl e);
        low = rw eb (passed-room link to n (λ _. true) false start start w pos).2;
        goes = rw eb (listed-target link to n start f pos);
        least = λ t h. ⊎_elim (λ d. inl (let e : number_of numbers best ≡ number_of numbers t = ap (number_of numbers) (eb ∙ d) in omega arith)) (λ x. inr (rw ek x))
            (passed-split link to n (λ _. true) false start start w pos t h);
      }

  module _ (k best : ℕ) (w : Nearing k best) (pos : 0 < k) (t : ℕ) (et : t ≡ get_or to (k - 1) 0) (m : ℕ) (em : m ≡ get_or link (k - 1) 0) where
    next : Passed link to n (λ _. true) false start m
    next = passed-next link to n (λ _. true) false start k w.passed pos m em (λ e. clash refl e)

    -- the edges from k on are the one to t and those from m on
    pub left : (u : ℕ) → listed link to k u ≡ true → (t ≡ u) ⊎ (listed link to m u ≡ true)
    left u h = ⊎_elim (λ d. inl (et ∙ d)) (λ x. inr (rw em x)) (passed-split link to n (λ _. true) false start k w.passed pos u h)

    pub nearing-take : number_of numbers t < number_of numbers best → Nearing m t
    nearing-take less = record {
      passed = next;
      low = rw et (passed-room link to n (λ _. true) false start k w.passed pos).2;
      goes = rw et (passed_first link to n (λ _. true) false start k w.passed pos);
      least = λ u h. ⊎_elim (λ x. inl (omega arith)) (λ x. ⊎_elim (λ d. inl (let e : number_of numbers t ≡ number_of numbers u = ap (number_of numbers) d in omega arith)) inr (left u x)) (w.least u h);
    }

    pub nearing-leave : number_of numbers best ≤ number_of numbers t → Nearing m best
    nearing-leave more = record {
      passed = next;
      low = w.low;
      goes = w.goes;
      least = λ u h. ⊎_elim inl (λ x. ⊎_elim (λ d. inl (let e : number_of numbers t ≡ number_of numbers u = ap (number_of numbers) d in omega arith)) inr (left u x)) (w.least u h);
    }

  pub nearing-last : (k best : ℕ) → Nearing k best → k ≤ 0 → (listed link to start best ≡ true) × ((t : ℕ) → listed link to start t ≡ true → number_of numbers best ≤ number_of numbers t)
  nearing-last k best w over = (w.goes, λ t h. ⊎_elim (λ x. x) (λ x. absurd (omega (arith, listed-some link to k t x))) (w.least t h))

-- an edge to a place outside a set is not skipped
pub skipped-to : (link to : List ℕ) (n : ℕ) (avoid : ℕ → Bool) (start k : ℕ) → From link to n start → Skipped link to avoid start k → (u : ℕ) → listed link to start u ≡ true → avoid u ≡ false
    → (0 < k) × (k - 1 < length to) × (listed link to start (get_or to (k - 1) 0) ≡ true) × (avoid (get_or to (k - 1) 0) ≡ false)
skipped-to link to n avoid start k f w u h out =
    let pos = listed-some link to k u (w.unseen u h out) in
    let from : From link to n k = record { count = f.count; low = omega (arith, f.low, w.low); edges = f.edges } in
    (pos, omega (arith, from.low, f.edges.to_room), w.within (get_or to (k - 1) 0) (listed-target link to n k from pos), w.stop pos)

-- ---- by falling numbers

module _ (n : ℕ) (step : ℕ → ℕ → Bool) (numbers : List ℕ) where
  -- the places ls were passed, and the walk stands at x
  pub record Walking (s at : ℕ) (old new : List ℕ) (k x : ℕ) : Type 0 where
    pub ls : List ℕ
    pub ends : k ≡ at + length ls
    pub told : Told at ls old new
    pub way : Way step s (ls ++ x ∷ [])
    pub low : x < n
    pub has : numbered numbers x ≡ true
    pub sum : length ls + number_of numbers x ≡ number_of numbers s
    pub through : (p q : ℕ → Bool) → Numbered n step p q numbers s → (i : ℕ) → i < length ls → p (place ls i) ≡ true

  pub walking-first : (s at : ℕ) (ws : List ℕ) → SomeNumbered n step numbers s → Walking s at ws ws at s
  walking-first s at ws w = record {
    ls = [];
    ends = omega arith;
    told = told_none at ws;
    way = way-one step s;
    low = w.numbered.inside;
    has = w.numbered.has;
    sum = omega arith;
    through = λ p q v i l. absurd (omega arith);
  }

  -- a place with a number above 0 isn't of q, so it is of p
  module _ (p q : ℕ → Bool) (d : Distances n step p q (numbered numbers) (number_of numbers)) (x : ℕ) (l : x < n) (has : numbered numbers x ≡ true) where
    passes : 0 < number_of numbers x → p x ≡ true
    passes pos = ⊎_elim (λ e. absurd (omega (arith, (d.here x l e).1))) (λ e. (d.on x l has e).1) (split (q x))

    stops : number_of numbers x ≡ 0 → q x ≡ true
    stops z = ⊎_elim (λ e. e) (λ e. absurd (omega (arith, (d.on x l has e).4))) (split (q x))

    -- the nearest successor has the number before
    pub near : ((t : ℕ) → number_of numbers t ≤ none) → 0 < number_of numbers x → (y : ℕ) → Nearest step numbers x y → (numbered numbers y ≡ true) × (number_of numbers x ≡ suc (number_of numbers y))
    near small pos y m = ⊎_elim (λ e. absurd (omega (arith, (d.here x l e).1))) (λ e. from (d.on x l has e)) (split (q x))
      where
        from : (t : ℕ) × (p x ≡ true) × (step x t ≡ true) × (numbered numbers t ≡ true) × (number_of numbers x ≡ suc (number_of numbers t)) → (numbered numbers y ≡ true) × (number_of numbers x ≡ suc (number_of numbers y))
        from (t, pass, h, v, e) =
            let below = m.least t h in
            let is = numbered-some numbers y (λ z. clash v (numbered-none numbers t (omega (arith, small t)))) in
            (is, omega (arith, below, (d.back x y l pass m.goes is).1))

  module _ (g : Graph n step) (s at : ℕ) (old new : List ℕ) (k x : ℕ) (w : Walking s at old new k x) (v : SomeNumbered n step numbers s) where
    pub walking-low : length w.ls + number_of numbers x < n
    walking-low =
        let a = v.numbered in
        omega (arith, w.sum, number-below g v.p v.q (numbered numbers) (number_of numbers) a.distances s a.inside a.has)

    pub walking-less : 0 < number_of numbers x → (y : ℕ) → Nearest step numbers x y → number_of numbers y < number_of numbers x
    walking-less pos y m = let a = v.numbered in omega (arith, (near v.p v.q a.distances x w.low w.has a.small pos y m).1)

    -- the word of x is put, and the walk goes to its nearest successor
    pub walking-more : k < length old → 0 < number_of numbers x → (y : ℕ) → Nearest step numbers x y → Walking s at old (set new k (x + 1)) (k + 1) y
    walking-more room pos y m =
        let a = v.numbered in
        let b = near v.p v.q a.distances x w.low w.has a.small pos y m in
        let e = more-length w.ls x in
        record {
          ls = w.ls ++ x ∷ [];
          ends = omega (arith, w.ends);
          told = told_more at w.ls old new w.told x k w.ends room;
          way = way-more step s w.ls x y w.way m.goes;
          low = g.inside x y w.low m.goes;
          has = b.0;
          sum = omega (arith, w.sum, b.1);
          through = λ p q c. more-each w.ls x (λ _ t. p t ≡ true) (w.through p q c) (passes p q c.distances x w.low w.has pos);
        }

    pub walking-last : k < length old → number_of numbers x ≤ 0 → Walked n step numbers s at old (set new k (x + 1)) (k + 1)
    walking-last room none =
        let z : number_of numbers x ≡ 0 = omega arith in
        let e = more-length w.ls x in
        let d = more-last w.ls x in
        record {
          ls = w.ls ++ x ∷ [];
          size = omega (arith, w.sum);
          ends = omega (arith, w.ends);
          way = w.way;
          told = told_more at w.ls old new w.told x k w.ends room;
          reaches = λ p q c. (rw (d, more-end w.ls x) (stops p q c.distances x w.low w.has z), λ i b. rw (more-front w.ls x i (omega arith)) (w.through p q c i (omega arith)));
        }

-- ---- round and round

module _ (n : ℕ) (step : ℕ → ℕ → Bool) (avoid : ℕ → Bool) (s : ℕ) where
  -- the walk has come to place t
  abbrev pub visited : List ℕ → ℕ → Bool
  visited seen t = not (eqb (get_or seen t 0) 0)

  -- the places ls were passed, the walk stands at x, and `seen` has the position of each place that was passed, counted from 1
  pub record Circling (old new seen : List ℕ) (k x : ℕ) : Type 0 where
    pub ls : List ℕ
    pub counted : k ≡ length ls
    pub told : Told 0 ls old new
    pub way : Way step s (ls ++ x ∷ [])
    pub low : x < n
    pub back : (t j : ℕ) → t < n → get_or seen t 0 ≡ suc j → (j < length ls) × (place ls j ≡ t)
    pub fit : length ls ≤ count_below (visited seen) n
    pub keeps : (y : ℕ → Bool) (e : Endless n step y avoid s) → (i : ℕ) → i < length (ls ++ x ∷ []) → e.keep (place (ls ++ x ∷ []) i) ≡ true

  pub circling-first : (ws seen : List ℕ) → s < n → ((t : ℕ) → get_or seen t 0 ≡ 0) → Circling ws ws seen 0 s
  circling-first ws seen l none_yet = record {
    ls = [];
    counted = refl;
    told = told_none 0 ws;
    way = way-one step s;
    low = l;
    back = λ t j b e. absurd (omega (arith, none_yet t));
    fit = omega arith;
    keeps = λ y e i b. let d : i ≡ 0 = omega arith in rw d e.start;
  }

  module _ (g : Graph n step) (l₀ : s < n) (old new seen : List ℕ) (k x : ℕ) (w : Circling old new seen k x) where
    -- what is known of x itself
    at_x : (y : ℕ → Bool) (e : Endless n step y avoid s) → e.keep x ≡ true
    at_x y e = rw (more-end w.ls x) at (w.keeps y e (length w.ls) (omega (arith, more-length w.ls x)))

    pub circling-onward : SomeEndless n step avoid s → (u : ℕ) × (step x u ≡ true) × (avoid u ≡ false)
    circling-onward v = v.endless.onward x w.low (at_x v.x v.endless)

    module _ (new-x : get_or seen x 0 ≡ 0) (wide : n ≤ length seen) where
      out : visited seen x ≡ false
      out = ap not (eq-eqb (get_or seen x 0) 0 new-x)

      pub circling-low : k < n
      circling-low = omega (arith, w.counted, work-room (visited seen) n (length w.ls) x w.fit w.low out)

      inside : x < length seen
      inside = omega (arith, w.low)

      elsewhere : (t : ℕ) → (x ≡ t → ⊥) → get_or (set seen x (k + 1)) t 0 ≡ get_or seen t 0
      elsewhere t d = get_or-set_other seen x t (k + 1) 0 (λ e. d (sym e))

      at_place : get_or (set seen x (k + 1)) x 0 ≡ k + 1
      at_place = get_or-set_same seen x (k + 1) 0 inside

      grows : (t : ℕ) → visited seen t ≡ true → visited (set seen x (k + 1)) t ≡ true
      grows t v = ap (λ (y : ℕ). not (eqb y 0)) (elsewhere t (λ d. clash (ap (visited seen) d ∙ v) out)) ∙ v

      now-in : visited (set seen x (k + 1)) x ≡ true
      now-in = ap not (ne_eqb (get_or (set seen x (k + 1)) x 0) 0 (λ e. omega (arith, at_place)))

      -- the word of x is put, and the walk goes to u
      pub circling-more : k < length old → (u : ℕ) → step x u ≡ true → avoid u ≡ false → Circling old (set new k (x + 1)) (set seen x (k + 1)) (k + 1) u
      circling-more room u h a =
          let m = more-length w.ls x in
          record {
            ls = w.ls ++ x ∷ [];
            counted = omega (arith, w.counted);
            told = told_more 0 w.ls old new w.told x k (omega (arith, w.counted)) room;
            way = way-more step s w.ls x u w.way h;
            low = g.inside x u w.low h;
            back = λ t j b e. find t j b e (ℕ_discrete x t);
            fit = omega (arith, w.fit, count_less (visited seen) (visited (set seen x (k + 1))) n (λ t _. grows t) x w.low out now-in);
            keeps = λ y e. more-each (w.ls ++ x ∷ []) u (λ _ t. e.keep t ≡ true) (w.keeps y e) (e.stays x u w.low (at_x y e) h a);
          }
        where
          find : (t j : ℕ) → t < n → get_or (set seen x (k + 1)) t 0 ≡ suc j → Dec (x ≡ t) → (j < length (w.ls ++ x ∷ [])) × (place (w.ls ++ x ∷ []) j ≡ t)
          find t j b e (yes d) =
              let f : k + 1 ≡ suc j = sym (ap (λ (y : ℕ). get_or (set seen x (k + 1)) y 0) (sym d) ∙ at_place) ∙ e in
              let i : j ≡ length w.ls = omega (arith, w.counted) in
              (omega (arith, more-length w.ls x), ap (place (w.ls ++ x ∷ [])) i ∙ more-end w.ls x ∙ d)
          find t j b e (no d) =
              let a = w.back t j b (sym (elsewhere t d) ∙ e) in
              (omega (arith, a.0, more-length w.ls x), more-front w.ls x j a.0 ∙ a.1)

    -- where it has been at x before, that is its turn
    pub circling-last : (r : Trail) → r.length ≡ k → r.turn ≡ get_or seen x 0 → (get_or seen x 0 ≡ 0 → ⊥) → Circled n step avoid s old new r
    circling-last r el et some = go (get_or seen x 0) refl
      where
        go : (m : ℕ) → get_or seen x 0 ≡ m → Circled n step avoid s old new r
        go zero e = absurd (some e)
        go (suc t) e =
            let a = w.back x t w.low e in
            let b : 0 < length w.ls = omega (arith, a.0) in
            record {
              ls = w.ls;
              counted = el ∙ w.counted;
              few = omega (arith, w.fit, count-le (visited seen) n);
              t = t;
              turn = et ∙ e;
              lasso = record { way = way-front w.ls x step s w.way b; within = a.0; turns = rw a.1 (way-last w.ls x step s w.way b) };
              told = w.told;
              each = λ y c i l. c.holds (place w.ls i) (inside-at i l) (rw (more-front w.ls x i l) at (w.keeps y c i (omega (arith, more-length w.ls x))));
            }
          where
            inside-at : (i : ℕ) → i < length w.ls → place w.ls i < n
            inside-at i l = rw (more-front w.ls x i l) at (way-inside g s l₀ (w.ls ++ x ∷ []) w.way i (omega (arith, more-length w.ls x)))
