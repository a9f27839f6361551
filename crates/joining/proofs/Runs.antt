-- The joined program runs as the road program does, and once that has ended as the creeper program does. Assumes nothing.
use mathlib.Core.Path.{◌≡◌, refl, sym, ◌∙◌, ap}
use mathlib.Core.Bool.{Bool, true, false}
use mathlib.Core.List.{List}
use mathlib.Core.Logic.{◌⊎◌, inl, inr}
use Prim.Native.Nat.{ℕ, zero, suc, ◌+◌, ◌-◌, ◌<◌, ◌≤◌}
use native.Mathlib.Omega.{arith}
use lib.Dec.{eqb}
use lib.ListN.{length, get_or, set}
use Rattle.base.specs.Pick.{pick}
use Rattle.language.specs.Kept.{kept_of}
use Rattle.language.specs.declared.Statement.{Statement}
use Rattle.language.specs.declared.Statement.TheVariants.{Read, Write, Assign, Branch, Skip}
use Rattle.program.specs.Program.{at, InPlace, Targets, WellFormed}
use Rattle.std.specs.Prelude.{Option, None, Some}
use Rattle.machine.specs.Machine.{Final, written, faulted, State, before, ended, after, value, stored, perform, step_from}
use Rattle.machine.specs.Answer.{Ends}
use Rattle.machine.proofs.Runs.{perform-inside}
use Rattle.machine.proofs.Unique.{ended-stays}
use Rattle.joining.specs.Joining.{moved, writes, reads, joined}
use Rattle.joining.specs.Runs.{shift_end, shift, Endless, JoinedRuns}
use Rattle.joining.proofs.Statements.{at-road, at-seam, at-creeper}

clashing : {f : Final} {s : ℕ} {us : List ℕ} {X : Type 0} → ended f ≡ before s us → X
clashing e = absurd (let z : ◌≡◌ {A = ℕ} 0 1 = cc in omega arith)

-- ---- single statements

-- a statement of a program of n either has another behind it, or is the `write`
abbrev InnerOrWrites : ℕ → ℕ → ℕ → List ℕ → Statement → Type 0
InnerOrWrites n s input us i = (s + 1 < n) ⊎ ((s + 1 ≡ n) × (perform i input s us ≡ ended (written (get_or us (writes i) 0) (kept_of us))))

inner-or-writes : (n s input : ℕ) (us : List ℕ) (i : Statement) → 2 ≤ n → InPlace n s i → InnerOrWrites n s input us i
inner-or-writes n s input us (Read y) two p = inl (omega (arith, p))
inner-or-writes n s input us (Write y) two p = inr (p, refl)
inner-or-writes n s input us (Assign y a) two p = inl p.1
inner-or-writes n s input us (Branch y a b) two p = inl p.1
inner-or-writes n s input us Skip two p = inl p.1

-- one that has another behind it doesn't end a run by writing
inner-unwritten : (n s input v : ℕ) (us ks : List ℕ) (i : Statement) → InPlace n s i → s + 1 < n → perform i input s us ≡ ended (written v ks) → ⊥
inner-unwritten n s input v us ks (Read y) p l e = clashing (sym e)
inner-unwritten n s input v us ks (Write y) p l e = omega (arith, p)
inner-unwritten n s input v us ks (Assign y a) p l e = go (value us a) e
  where
    go : (g : Option ℕ) → stored g y s us ≡ ended (written v ks) → ⊥
    go (Some u) f = clashing (sym f)
    go None f = let z : ◌≡◌ {A = ℕ} 0 1 = cc in omega arith
inner-unwritten n s input v us ks (Branch y a b) p l e = clashing (sym e)
inner-unwritten n s input v us ks Skip p l e = clashing (sym e)

-- the first is its `read`
first_reads : (n : ℕ) (i : Statement) → 2 ≤ n → InPlace n 0 i → (input : ℕ) (us : List ℕ) → perform i input 0 us ≡ before 1 (set us (reads i) input)
first_reads n (Read y) two p input us = refl
first_reads n (Write y) two p input us = absurd (omega (arith, p))
first_reads n (Assign y a) two p input us = absurd (omega (arith, p.0))
first_reads n (Branch y a b) two p input us = absurd (omega (arith, p.0))
first_reads n Skip two p input us = absurd (omega (arith, p.0))

-- past the first, a moved statement does the same, further on
module _ (d n input v : ℕ) (us : List ℕ) where
  moved-performs : (s : ℕ) (i : Statement) → InPlace n (suc s) i → Targets n i → perform (moved d i) input (d + suc s) us ≡ shift d (perform i v (suc s) us)
  moved-performs s (Read y) p t = absurd (omega (arith, p))
  moved-performs s (Write y) p t = refl
  moved-performs s (Assign y a) p t = go (value us a)
    where
      go : (g : Option ℕ) → stored g y (d + suc s) us ≡ shift d (stored g y (suc s) us)
      go (Some u) = ap (λ (k : ℕ). before k (set us y u)) (omega arith)
      go None = refl
  moved-performs s (Branch y a b) p t = go (eqb (get_or us y 0) 0)
    where
      go : (c : Bool) → before (pick c (d + b) (d + a) - 1) us ≡ shift d (before (pick c b a - 1) us)
      go true = ap (λ (k : ℕ). before k us) (omega (arith, t.1.0))
      go false = ap (λ (k : ℕ). before k us) (omega (arith, t.0.0))
  moved-performs s Skip p t = ap (λ (k : ℕ). before k us) (omega arith)

-- no statement leads to the first
moves-on : (n s v : ℕ) (us : List ℕ) (i : Statement) → Targets n i → (k : ℕ) (ws : List ℕ) → perform i v s us ≡ before k ws → 0 < k
moves-on n s v us (Read y) t k ws e = let h : s + 1 ≡ k = cc in omega arith
moves-on n s v us (Write y) t k ws e = clashing e
moves-on n s v us (Assign y a) t k ws e = go (value us a) e
  where
    go : (g : Option ℕ) → stored g y s us ≡ before k ws → 0 < k
    go (Some u) f = let h : s + 1 ≡ k = cc in omega arith
    go None f = clashing f
moves-on n s v us (Branch y a b) t k ws e = go (eqb (get_or us y 0) 0) e
  where
    go : (c : Bool) → before (pick c b a - 1) us ≡ before k ws → 0 < k
    go true f = let h : b - 1 ≡ k = cc in omega (arith, t.1.0)
    go false f = let h : a - 1 ≡ k = cc in omega (arith, t.0.0)
moves-on n s v us Skip t k ws e = let h : s + 1 ≡ k = cc in omega arith

-- ---- runs

module _ (P Q : List Statement) (w : WellFormed P) (x : WellFormed Q) (vs : List ℕ) (input : ℕ) where
  abbrev d : ℕ
  d = length P - 1

  abbrev J : List Statement
  J = joined P Q

  -- before its last statement the road does what the whole does
  same_step : (t : ℕ) (us : List ℕ) → t + 1 < length P → perform (at J t) input t us ≡ perform (at P t) input t us
  same_step t us l = ap (λ (i : Statement). perform i input t us) (at-road P Q w.counted x.counted t (omega arith))

  -- where the road's run stands, inside its program, and the whole with it
  abbrev Beside : ℕ → ℕ → List ℕ → Type 0
  Beside k s ws = (s < length P) × (after J vs input k ≡ before s ws)

  beside : (k s : ℕ) (ws : List ℕ) → after P vs input k ≡ before s ws → Beside k s ws
  unfolding after
  beside zero s ws e = let h : 0 ≡ s = cc in (omega (arith, w.counted.0), e)
  beside (suc k) s ws e = go (beside k) (after P vs input k) refl
    where
      step : (t : ℕ) (us : List ℕ) → Beside k t us → perform (at P t) input t us ≡ before s ws → Beside (suc k) s ws
      step t us (l, stands) g = inner (inner-or-writes (length P) t input us (at P t) w.counted.0 (w.placed t l))
        where
          inner : InnerOrWrites (length P) t input us (at P t) → Beside (suc k) s ws
          inner (inl h) = (
            perform-inside (length P) t input s us ws (at P t) w.counted.0 (w.placed t l) (w.aimed t l) g,
            ap (step_from J input) stands ∙ same_step t us h ∙ g,
          )
          inner (inr h) = clashing (sym h.1 ∙ g)

      go : ((t : ℕ) (us : List ℕ) → after P vs input k ≡ before t us → Beside k t us) → (σ : State) → after P vs input k ≡ σ → Beside (suc k) s ws
      go ih (before t us) is = step t us (ih t us is) (sym (ap (step_from P input) is) ∙ e)
      go ih (ended f) is = clashing (sym (ap (step_from P input) is) ∙ e)

  -- the road's last step
  module _ (k : ℕ) (f : Final) (e : Ends P vs input k f) where
    over : perform (at P e.last) input e.last e.left ≡ ended f
    unfolding after
    over = sym (ap (step_from P input) e.stands) ∙ sym (ap (after P vs input) e.counted) ∙ e.over

    here : Beside e.steps e.last e.left
    here = beside e.steps e.last e.left e.stands

    next : after J vs input k ≡ perform (at J e.last) input e.last e.left
    unfolding after
    next = ap (after J vs input) e.counted ∙ ap (step_from J input) here.1

    last_step : InnerOrWrites (length P) e.last input e.left (at P e.last)
    last_step = inner-or-writes (length P) e.last input e.left (at P e.last) w.counted.0 (w.placed e.last here.0)

  road_faults : (k s : ℕ) → Ends P vs input k (faulted s) → Ends J vs input k (faulted s)
  road_faults k s e = record {
    last = e.last;
    left = e.left;
    steps = e.steps;
    counted = e.counted;
    stands = (here k (faulted s) e).1;
    over = next k (faulted s) e ∙ same_step e.last e.left (inner (last_step k (faulted s) e)) ∙ over k (faulted s) e;
  }
    where
      inner : InnerOrWrites (length P) e.last input e.left (at P e.last) → e.last + 1 < length P
      inner (inl h) = h
      inner (inr h) = let z = sym (over k (faulted s) e) ∙ h.1 in absurd (let y : ◌≡◌ {A = ℕ} 0 1 = cc in omega arith)

  road_endless : Endless P vs input → Endless J vs input
  road_endless never k f e = go (after P vs input k) refl
    where
      go : (σ : State) → after P vs input k ≡ σ → ⊥
      go (before s ws) is = clashing (sym e ∙ (beside k s ws is).1)
      go (ended g) is = never k g is

  module _ (k v : ℕ) (ks : List ℕ) (e : Ends P vs input k (written v ks)) where
    -- the road ends at its last statement, and writes the value there
    pub last_written : (e.last ≡ d) × (v ≡ get_or e.left (writes (at P d)) 0)
    last_written = go (last_step k (written v ks) e)
      where
        go : InnerOrWrites (length P) e.last input e.left (at P e.last) → (e.last ≡ d) × (v ≡ get_or e.left (writes (at P d)) 0)
        go (inl h) =
            let there = w.placed e.last (here k (written v ks) e).0 in
            absurd (inner-unwritten (length P) e.last input v e.left ks (at P e.last) there h (over k (written v ks) e))
        go (inr h) =
            let is : e.last ≡ d = omega (arith, h.0) in
            let z = sym (over k (written v ks) e) ∙ h.1 in
            let y : v ≡ get_or e.left (writes (at P e.last)) 0 = cc in
            (is, rw is at y)

    -- the seam does what the creeper's first step does
    seamed : after J vs input k ≡ before (d + 1) (set e.left (reads (at Q 0)) v)
    seamed =
        let is = last_written.0 in
        let a : after J vs input k ≡ perform (at J d) input d e.left = rw is at (next k (written v ks) e) in
        a ∙ ap (λ (i : Statement). perform i input d e.left) (at-seam P Q w.counted x.counted)
        ∙ ap (λ (z : ℕ). before (d + 1) (set e.left (reads (at Q 0)) z)) (sym last_written.1)

    begun : after Q e.left v 1 ≡ before 1 (set e.left (reads (at Q 0)) v)
    unfolding after
    begun = first_reads (length Q) (at Q 0) x.counted.0 (x.placed 0 (omega (arith, x.counted.0))) v e.left

    -- past its first statement, and the whole with it
    record With (j : ℕ) : Type 0 where
      same : after J vs input (k + j) ≡ shift d (after Q e.left v (suc j))
      past : (s : ℕ) (us : List ℕ) → after Q e.left v (suc j) ≡ before s us → (0 < s) × (s < length Q)

    with_first : With 0
    with_first = record {
      same = ap (after J vs input) (omega arith) ∙ seamed ∙ ap (shift d) (sym begun);
      past = λ s us h. let z : before 1 (set e.left (reads (at Q 0)) v) ≡ before s us = sym begun ∙ h in let g : 1 ≡ s = cc in omega (arith, x.counted.0);
    }

    with-more : (j : ℕ) → With j → With (suc j)
    unfolding after
    with-more j i = go (after Q e.left v (suc j)) refl
      where
        more : k + suc j ≡ suc (k + j)
        more = omega arith

        moves : (s : ℕ) (us : List ℕ) → after Q e.left v (suc j) ≡ before (suc s) us → suc s < length Q → With (suc j)
        moves s us is l =
            let p = x.placed (suc s) l in
            let t = x.aimed (suc s) l in
            let y : after J vs input (k + j) ≡ before (d + suc s) us = i.same ∙ ap (shift d) is in
            let q : after Q e.left v (suc (suc j)) ≡ perform (at Q (suc s)) v (suc s) us = ap (step_from Q v) is in
            record {
              same =
                  ap (after J vs input) more ∙ ap (step_from J input) y ∙ ap (λ (c : Statement). perform c input (d + suc s) us) (at-creeper P Q w.counted x.counted s)
                  ∙ moved-performs d (length Q) input v us s (at Q (suc s)) p t ∙ ap (shift d) (sym q);
              past = λ m ws h. (
                moves-on (length Q) (suc s) v us (at Q (suc s)) t m ws (sym q ∙ h),
                perform-inside (length Q) (suc s) v m us ws (at Q (suc s)) x.counted.0 p t (sym q ∙ h),
              );
            }

        stops : (f : Final) → after Q e.left v (suc j) ≡ ended f → With (suc j)
        stops f is =
            let q : after Q e.left v (suc (suc j)) ≡ ended f = ap (step_from Q v) is in
            record {
              same = ap (after J vs input) more ∙ ap (step_from J input) (i.same ∙ ap (shift d) is) ∙ ap (shift d) (sym q);
              past = λ m ws h. clashing (sym q ∙ h);
            }

        at_place : (s : ℕ) (us : List ℕ) → after Q e.left v (suc j) ≡ before s us → (0 < s) × (s < length Q) → With (suc j)
        at_place zero us is l = absurd (omega (arith, l.0))
        at_place (suc s) us is l = moves s us is l.1

        go : (σ : State) → after Q e.left v (suc j) ≡ σ → With (suc j)
        go (before s us) is = at_place s us is (i.past s us is)
        go (ended f) is = stops f is

    along : (j : ℕ) → With j
    along zero = with_first
    along (suc j) = with-more j (along j)

    -- the same from the seam on: after as many steps more as the creeper has taken, the whole is where the creeper is
    pub onward : (m : ℕ) → after J vs input (e.steps + m) ≡ shift d (after Q e.left v m)
    unfolding after
    onward zero =
        let z : e.steps + 0 ≡ e.steps = omega arith in
        let g : e.last ≡ d + 0 = omega (arith, last_written.0) in
        ap (after J vs input) z ∙ (here k (written v ks) e).1 ∙ ap (λ (s : ℕ). before s e.left) g
    onward (suc j) = let z : e.steps + suc j ≡ k + j = omega (arith, e.counted) in ap (after J vs input) z ∙ (along j).same

    both_end : (m : ℕ) (f : Final) → Ends Q e.left v m f → Ends J vs input (k + m - 1) (shift_end d f)
    both_end m f c = record {
      last = d + c.last;
      left = c.left;
      steps = e.steps + c.steps;
      counted = omega (arith, e.counted, c.counted);
      stands = onward c.steps ∙ ap (shift d) c.stands;
      over = ap (after J vs input) (let z : k + m - 1 ≡ e.steps + m = omega (arith, e.counted) in z) ∙ onward m ∙ ap (shift d) c.over;
    }

    shifted-ends : (σ : State) (f : Final) → shift d σ ≡ ended f → (g : Final) × (σ ≡ ended g)
    shifted-ends (before s us) f h = clashing (sym h)
    shifted-ends (ended g) f h = (g, refl)

    creeper_endless : Endless Q e.left v → Endless J vs input
    creeper_endless never m f h =
        let later : after J vs input (m + e.steps) ≡ ended f = ended-stays J vs input m f e.steps h in
        let z : m + e.steps ≡ e.steps + m = omega arith in
        let c = shifted-ends (after Q e.left v m) f (sym (onward m) ∙ (rw z at later)) in
        never m c.0 c.1

  pub joined-runs : JoinedRuns P Q (joined P Q) vs input
  joined-runs = record {
    road = λ k s ws h. (beside k s ws h).1;
    road_faults = road_faults;
    road_endless = road_endless;
    creeper = λ k v ks e j. (along k v ks e j).same;
    both_end = both_end;
    creeper_endless = creeper_endless;
  }
