-- The stack of a worklist: gathering the set, taking a place from the stack, visiting its predecessors one by one, and the end.
-- Assumes nothing.
use mathlib.Core.Path.{◌≡◌, refl, sym, ap, ◌∙◌, subst}
use mathlib.Core.List.{List}
use mathlib.Core.Bool.{Bool, true, false, ◌||◌}
use mathlib.Core.Logic.{◌⊎◌, inl, inr, ⊎_elim}
use Prim.Native.Nat.{ℕ, ◌+◌, ◌-◌, ◌≤◌, ◌<◌}
use native.Mathlib.Decide.{dec_lt, ℕ_discrete}
use native.Mathlib.Omega.{arith}
use lib.ListN.{length, get_or, set}
use lib.Seq.{get_or-set_same, get_or-set_other}
use lib.Dec.{eqb}
use Rattle.bits.specs.Row.{count_below}
use Rattle.base.proofs.Bools.{split, clash}
use Rattle.bits.proofs.Counts.{count-le, count_less, count-up, count-one}
use Rattle.ctl.specs.Paths.{Quant, quant, So, Graph}
use Rattle.ctl.specs.Tables.{Joins, Grew, Grown}
use Rattle.ctl.proofs.Reach.{onto-map, onto-some, more-on, more-self, more-only, grew_none, grew-join, grew-all}
use Rattle.graph.specs.Lists.{step, listed, Linked}
use Rattle.graph.specs.Graphs.{Opposite}
use Rattle.graph.proofs.Lists.{listed-end}
use Rattle.graph.proofs.Walk.{Passed, linked-from, passed_none, passed-room, passed_first, passed-split}
use Rattle.worklist.specs.Worklist.{Rest, Ready, Work, Visited, Gathered}
use Rattle.worklist.proofs.Rest.{rest-grow, ready-joins}

-- ---- one place more on the stack

module _ (stack : List ℕ) (h s : ℕ) (room : h < length stack) where
  pub push-below : (i : ℕ) → i < h → get_or (set stack h s) i 0 ≡ get_or stack i 0
  push-below i b = get_or-set_other stack h i s 0 (omega arith)

  pub push-top : get_or (set stack h s) h 0 ≡ s
  push-top = get_or-set_same stack h s 0 room

  pub push-each : (P : ℕ → Type 0) → P s → ((i : ℕ) → i < h → P (get_or stack i 0)) → (i : ℕ) → i < h + 1 → P (get_or (set stack h s) i 0)
  push-each P x f i l = go (dec_lt i h)
    where
      go : Dec (i < h) → P (get_or (set stack h s) i 0)
      go (yes b) = rw (push-below i b) (f i b)
      go (no b) = let d : i ≡ h = omega arith in rw (d, push-top) x

-- ---- gathering

pub gather_none : (z : ℕ → Bool) (m : ℕ) (stack : List ℕ) → m ≤ 0 → Gathered z m stack 0
gather_none z m stack none = record { stacked = λ i l. absurd (omega arith); fit = omega arith; each = λ s l. absurd (omega arith) }

module _ (z : ℕ → Bool) (stack : List ℕ) (m h : ℕ) (a : Gathered z m stack h) where
  pub gather-skip : z m ≡ false → Gathered z (m + 1) stack h
  gather-skip e = record {
    stacked = λ i l. let w = a.stacked i l in (omega (arith, w.0), w.1);
    fit = omega (arith, a.fit, count-up z m);
    each = λ s l x. a.each s (before s l x (ℕ_discrete s m)) x;
  }
    where
      before : (s : ℕ) → s < m + 1 → z s ≡ true → Dec (s ≡ m) → s < m
      before s l x (yes d) = clash (ap z (sym d) ∙ x) e
      before s l x (no d) = omega arith

  pub gather-join : z m ≡ true → h < length stack → Gathered z (m + 1) (set stack h m) (h + 1)
  gather-join e room = record {
    stacked = push-each stack h m room (λ t. (t < m + 1) × (z t ≡ true)) (omega arith, e) (λ i l. let w = a.stacked i l in (omega (arith, w.0), w.1));
    fit = omega (arith, a.fit, count-one z m e);
    each = λ s l x. each s l x (ℕ_discrete s m);
  }
    where
      each : (s : ℕ) → s < m + 1 → z s ≡ true → Dec (s ≡ m) → (i : ℕ) × (i < h + 1) × (get_or (set stack h m) i 0 ≡ s)
      each s l x (yes d) = (h, omega arith, push-top stack h m room ∙ sym d)
      each s l x (no d) = let w = a.each s (omega arith) x in (w.0, omega (arith, w.1), push-below stack h m room w.0 w.1 ∙ w.2)

-- ---- from the first to the last place of the stack

module _ (k : Quant) (n : ℕ) (step : ℕ → ℕ → Bool) (p : ℕ → Bool) where
  pub work-first : Graph n step → (z : ℕ → Bool) (stack : List ℕ) (h : ℕ) → Gathered z n stack h → Work k n step p z stack h (λ _. false)
  work-first g z stack h a = record {
    stacked = a.stacked;
    fit = a.fit;
    due = λ s l j.
        let o = onto-some k n step g (So z) s l j.onto in
        let i = a.each o.0 (g.inside s o.0 l o.1) o.2 in
        inl (i.0, i.1, ap (step s) i.2 ∙ o.1);
  }

  -- t is taken from the stack, and its predecessors are due
  pub work-take : (back : ℕ → ℕ → Bool) → Opposite n step back → (z : ℕ → Bool) (stack : List ℕ) (h t : ℕ) → 0 < h → t ≡ get_or stack (h - 1) 0 → Work k n step p z stack h (λ _. false) → Work k n step p z stack (h - 1) (back t)
  work-take back o z stack h t pos e w = record {
    stacked = λ i l. w.stacked i (omega arith);
    fit = omega (arith, w.fit);
    due = λ s l j. ⊎_elim (λ x. last s l j x (dec_lt x.0 (h - 1))) (λ x. clash x refl) (w.due s l j);
  }
    where
      last : (s : ℕ) → s < n → Joins k step p z s → (x : (i : ℕ) × (i < h) × (step s (get_or stack i 0) ≡ true)) → Dec (x.0 < h - 1) → ((i : ℕ) × (i < h - 1) × (step s (get_or stack i 0) ≡ true)) ⊎ (back t s ≡ true)
      last s l j x (yes b) = inl (x.0, b, x.2)
      last s l j x (no b) =
          let d : x.0 ≡ h - 1 = omega (arith, x.1) in
          let a = w.stacked (h - 1) (omega arith) in
          let m : step s t ≡ true = ap (step s) (e ∙ ap (λ (i : ℕ). get_or stack i 0) (sym d)) ∙ x.2 in
          inr (o.turned s t l (rw e a.0) (λ y. clash (ap z (y ∙ e) ∙ a.1) j.out) ∙ m)

  -- where the stack is empty, no place is left to join
  pub work-last : (q z : ℕ → Bool) (stack : List ℕ) (h : ℕ) → h ≤ 0 → Work k n step p z stack h (λ _. false) → Grew k n step p q z → Grown k n step p q z
  work-last q z stack h none w a = grew-all k n step p q z a (λ s l j. ⊎_elim (λ i. omega (arith, i.1)) (λ y. clash y refl) (w.due s l j))

-- a place that is not in the set yet leaves room on the stack
pub work-room : (y : ℕ → Bool) (n h s : ℕ) → h ≤ count_below y n → s < n → y s ≡ false → h < n
work-room y n h s f l e = omega (arith, count_less y (λ _. true) n (λ _ _ _. refl) s l e refl, count-le (λ _. true) n)

-- ---- a walk along the predecessors of t

module _ (entry chain from : List ℕ) (n t : ℕ) where
  -- the walk looks for nothing: no place is `false` in the set of all numbers
  abbrev pub Walked : ℕ → Type 0
  Walked k = Passed chain from n (λ _. true) false (get_or entry t 0) k

  pub walk_first : (k : ℕ) → Linked entry chain from → length entry ≡ n → k ≡ get_or entry t 0 → Walked k
  walk_first k l e d = rw (d, ← e) (passed_none chain from (length entry) (λ _. true) false (get_or entry t 0) (linked-from entry chain from t l))

  module _ (k : ℕ) (w : Walked k) (pos : 0 < k) (s : ℕ) (es : s ≡ get_or from (k - 1) 0) where
    pub walk-each : (m : ℕ) → m ≡ get_or chain (k - 1) 0 → (u : ℕ) → listed chain from k u ≡ true → (s ≡ u) ⊎ (listed chain from m u ≡ true)
    walk-each m em u h =
        ⊎_elim (λ e. inl (es ∙ e)) (λ x. inr (ap (λ (i : ℕ). listed chain from i u) em ∙ x))
        (passed-split chain from n (λ _. true) false (get_or entry t 0) k w pos u h)

    pub walk-low : s < n
    walk-low = rw es (passed-room chain from n (λ _. true) false (get_or entry t 0) k w pos).2

    -- where t is in the set, s joins it if it is ready
    pub walk-joins : (all : Bool) (steps : ℕ → ℕ → Bool) (p inside : ℕ → Bool) → Opposite n steps (step entry chain from) → t < n → inside t ≡ true → Ready all steps p inside s → Joins (quant all) steps p inside s
    walk-joins all steps p inside o l x a =
        ready-joins all steps p inside s t
        (sym (o.turned s t walk-low l (λ e. clash (ap inside e ∙ x) a.out)) ∙ ap (listed chain from (get_or entry t 0)) es ∙ passed_first chain from n (λ _. true) false (get_or entry t 0) k w pos)
        x a

-- ---- visiting

module _ (k : Quant) (head link to : List ℕ) (p z : ℕ → Bool) (rest stack : List ℕ) (g : ℕ) where
  pub visit-first : (more : ℕ → Bool) → Rest head link to rest z → Work k (length head) (step head link to) p z stack g more → Visited k head link to p z z rest stack g g more
  visit-first more r w = record { seen = r; work = w; grew = grew_none k (length head) (step head link to) p z; paid = omega arith }

  pub visit-last : (y : ℕ → Bool) (h : ℕ) (chain from : List ℕ) (m : ℕ) → m ≤ 0 → Visited k head link to p z y rest stack g h (listed chain from m) → Visited k head link to p z y rest stack g h (λ _. false)
  visit-last y h chain from m e v = record {
    seen = v.seen;
    work = record {
      stacked = v.work.stacked;
      fit = v.work.fit;
      due = λ s l j. ⊎_elim inl (λ x. let d : m ≡ 0 = omega arith in clash x (ap (λ (i : ℕ). listed chain from i s) d ∙ listed-end chain from s)) (v.work.due s l j);
    };
    grew = v.grew;
    paid = v.paid;
  }

-- one predecessor s more is looked at: `more` loses it
module _ (k : Quant) (head link to : List ℕ) (p z : ℕ → Bool) (g : ℕ) (more more' : ℕ → Bool) (s : ℕ) (each : (u : ℕ) → more u ≡ true → (s ≡ u) ⊎ (more' u ≡ true)) where
  abbrev n : ℕ
  n = length head

  abbrev steps : ℕ → ℕ → Bool
  steps = step head link to

  pub visit-skip : (y : ℕ → Bool) (rest rest' stack : List ℕ) (h : ℕ) → Visited k head link to p z y rest stack g h more → Rest head link to rest' y → (Joins k steps p y s → ⊥) → Visited k head link to p z y rest' stack g h more'
  visit-skip y rest rest' stack h v r off = record {
    seen = r;
    work = record {
      stacked = v.work.stacked;
      fit = v.work.fit;
      due = λ u l j. ⊎_elim inl (λ m. ⊎_elim (λ e. absurd (off (subst (Joins k steps p y) (sym e) j))) inr (each u m)) (v.work.due u l j);
    };
    grew = v.grew;
    paid = v.paid;
  }

  pub visit-join : Graph (length head) (step head link to) → (y y' : ℕ → Bool) (rest rest' stack : List ℕ) (h : ℕ) → Visited k head link to p z y rest stack g h more → Rest head link to rest' y → s < n → h < length stack
      → Joins k steps p y s → ((j : ℕ) → y' j ≡ (y j || eqb s j)) → Visited k head link to p z y' rest' (set stack h s) g (h + 1) more'
  visit-join gr y y' rest rest' stack h v r l room j f = record {
    seen = rest-grow head link to rest' y y' on r;
    work = record {
      stacked = push-each stack h s room (λ t. (t < n) × (y' t ≡ true)) (l, self) (λ i b. let w = v.work.stacked i b in (w.0, on (get_or stack i 0) w.1));
      fit = omega (arith, v.work.fit, less);
      due = due;
    };
    grew = grew-join k n steps p gr z y y' s l j f v.grew;
    paid = omega (arith, v.paid, less);
  }
    where
      on : (t : ℕ) → y t ≡ true → y' t ≡ true
      on = more-on y y' s f

      self : y' s ≡ true
      self = more-self y y' s f

      less : count_below y n < count_below y' n
      less = count_less y y' n (λ t _. on t) s l j.out self

      -- what joins now and does not step to s was to join before
      before : (u : ℕ) → Joins k steps p y' u → steps u s ≡ false → Joins k steps p y u
      before u w e = record {
        out = ⊎_elim (λ x. clash (on u x) w.out) (λ x. x) (split (y u));
        pass = w.pass;
        onto = onto-map k steps (So y') (So y) u (λ t h x. ⊎_elim (λ a. a) (λ a. clash (subst (λ (b : ℕ). steps u b ≡ true) (sym a) h) e) (more-only y y' s f t x)) w.onto;
      }

      due : (u : ℕ) → u < n → Joins k steps p y' u → ((i : ℕ) × (i < h + 1) × (steps u (get_or (set stack h s) i 0) ≡ true)) ⊎ (more' u ≡ true)
      due u b w =
          ⊎_elim (λ e. inl (h, omega arith, ap (steps u) (push-top stack h s room) ∙ e))
          (λ e.
          ⊎_elim (λ x. inl (x.0, omega (arith, x.1), ap (steps u) (push-below stack h s room x.0 x.1) ∙ x.2))
          (λ m. ⊎_elim (λ d. clash (subst (λ (a : ℕ). y' a ≡ true) d self) w.out) inr (each u m))
          (v.work.due u b (before u w e)))
          (split (steps u s))
