-- A walk along a list of edges that looks for a place in a set, or outside it, and what its answer says of a place's steps.
-- Assumes nothing.
use mathlib.Core.Path.{◌≡◌, refl, sym, ap, ◌∙◌}
use mathlib.Core.List.{List}
use mathlib.Core.Bool.{Bool, true, false, ◌||◌, not, beq}
use mathlib.Core.Logic.{◌⊎◌, inl, inr, ◌↔◌, ⊎_elim}
use Prim.Native.Nat.{ℕ, ◌-◌, ◌≤◌, ◌<◌}
use native.Mathlib.Omega.{arith}
use lib.ListN.{length, get_or}
use lib.Dec.{eqb}
use borrow.Author.Tests.{eqb-true, eq-eqb}
use Rattle.base.proofs.Bools.{split, clash, or_case, or_left, or_right}
use Rattle.ctl.specs.Paths.{quant, So}
use Rattle.ctl.specs.Tables.{Onto}
use Rattle.graph.specs.Lists.{listed, Linked, From}
use Rattle.graph.proofs.Lists.{listed-step, listed-end}

-- the walk from the position `start` has come to k: the places that it passed are not `want` in the set
pub record Passed (link to : List ℕ) (n : ℕ) (set : ℕ → Bool) (want : Bool) (start k : ℕ) : Type 0 where
  pub from : From link to n k
  pub low : k ≤ start
  pub unseen : (t : ℕ) → listed link to start t ≡ true → set t ≡ want → listed link to k t ≡ true
  pub within : (t : ℕ) → listed link to k t ≡ true → listed link to start t ≡ true

pub linked-from : (head link to : List ℕ) (s : ℕ) → Linked head link to → From link to (length head) (get_or head s 0)
linked-from head link to s l = record { count = l.count; low = l.lists.heads s; edges = l.lists.edges }

module _ (link to : List ℕ) (n : ℕ) (set : ℕ → Bool) (want : Bool) (start : ℕ) where
  pub passed_none : From link to n start → Passed link to n set want start start
  passed_none f = record { from = f; low = omega arith; unseen = λ t h e. h; within = λ t h. h }

  module _ (k : ℕ) (w : Passed link to n set want start k) (pos : 0 < k) where
    abbrev target : ℕ
    target = get_or to (k - 1) 0

    abbrev next : ℕ
    next = get_or link (k - 1) 0

    here : k - 1 < w.from.count
    here = omega (arith, w.from.low)

    listed_here : (t : ℕ) → listed link to k t ≡ (eqb target t || listed link to next t)
    listed_here t = listed-step link to w.from.count w.from.edges.links t k pos w.from.low

    pub passed-room : (k - 1 < length link) × (k - 1 < length to) × (target < n)
    passed-room = (omega (arith, here, w.from.edges.link_room), omega (arith, here, w.from.edges.to_room), w.from.edges.targets (k - 1) here)

    pub passed-less : next < k
    passed-less = omega (arith, w.from.edges.links (k - 1) here)

    pub passed_first : listed link to start target ≡ true
    passed_first = w.within target (listed_here target ∙ or_left (eqb target target) (listed link to next target) (eq-eqb target target refl))

    -- the places from k on are the target at k and those that follow
    pub passed-split : (t : ℕ) → listed link to k t ≡ true → (target ≡ t) ⊎ (listed link to next t ≡ true)
    passed-split t h = ⊎_elim (λ e. inl (eqb-true target t e)) inr (or_case (eqb target t) (listed link to next t) (sym (listed_here t) ∙ h))

    pub passed-next : (m : ℕ) → m ≡ next → (set target ≡ want → ⊥) → Passed link to n set want start m
    passed-next m d away = rw d (record {
      from = record { count = w.from.count; low = omega (arith, passed-less, w.from.low); edges = w.from.edges };
      low = omega (arith, passed-less, w.low);
      unseen = λ t h o. ⊎_elim (λ x. absurd (away (ap set x ∙ o))) (λ x. x) (passed-split t (w.unseen t h o));
      within = λ t h. w.within t (listed_here t ∙ or_right (eqb target t) (listed link to next t) h);
    })

  -- what the walk answers
  abbrev Met : Type 0
  Met = (t : ℕ) × (listed link to start t ≡ true) × (set t ≡ want)

  pub passed-met : (k : ℕ) → Passed link to n set want start k → 0 < k → set (get_or to (k - 1) 0) ≡ want → (true ≡ true) ↔ Met
  passed-met k w pos e = (λ _. (get_or to (k - 1) 0, passed_first k w pos, e), λ _. refl)

  pub passed_over : (k : ℕ) → Passed link to n set want start k → k ≤ 0 → (false ≡ true) ↔ Met
  passed_over k w z =
      (λ e. clash e refl, λ m. let d : k ≡ 0 = omega arith in clash (w.unseen m.0 m.1 m.2) (ap (λ (x : ℕ). listed link to x m.0) d ∙ listed-end link to m.0))

-- ---- the flags `want` and `all`

pub beq_same : (a b : Bool) → beq a b ≡ true → a ≡ b
beq_same true true e = refl
beq_same true false e = clash e refl
beq_same false true e = clash e refl
beq_same false false e = refl

pub beq-differ : (a b : Bool) → beq a b ≡ false → a ≡ b → ⊥
beq-differ true true e d = clash refl e
beq-differ true false e d = clash refl d
beq-differ false true e d = clash d refl
beq-differ false false e d = clash refl e

-- all steps lead into the set where none leads out of it
pub met-onto : (step : ℕ → ℕ → Bool) (set : ℕ → Bool) (s : ℕ) (all r : Bool) → (r ≡ true) ↔ ((t : ℕ) × (step s t ≡ true) × (set t ≡ not all)) → (not (beq r all) ≡ true) ↔ Onto (quant all) step (So set) s
met-onto step set s true true m = (λ e. clash e refl, λ h. let x = m.0 refl in clash (h x.0 x.1) x.2)
met-onto step set s true false m = (λ _ t e. ⊎_elim (λ x. x) (λ x. clash (m.1 (t, e, x)) refl) (split (set t)), λ _. refl)
met-onto step set s false true m = (λ _. m.0 refl, λ _. refl)
met-onto step set s false false m = (λ e. clash e refl, λ h. m.1 h)
