-- The given and the changed program run in lockstep: after every number of steps both runs stand before the same statement, and agree on
-- every variable that the given program may still use before defining it; or both have ended alike. By induction on the number of steps,
-- with the invariant `Held`, in which variables count as used as U says. Assumes nothing.
use mathlib.Core.Path.{◌≡◌, refl, sym, ◌∙◌, ap, ap₂, subst}
use mathlib.Core.Bool.{Bool, true, false}
use mathlib.Core.Logic.{◌↔◌, ◌⊎◌, inl, inr}
use mathlib.Core.List.{List}
use Prim.Native.Nat.{ℕ, zero, suc, ◌+◌, ◌-◌, ◌<◌}
use native.Mathlib.Omega.{arith}
use lib.Dec.{eqb}
use lib.ListN.{length, get_or, set, length-set}
use lib.Seq.{get_or-set_other}
use borrow.Author.Tests.{eq-eqb}
use Rattle.base.proofs.Bools.{or_left, or_right}
use Rattle.language.specs.Spelling.{variables, Valid}
use Rattle.language.specs.declared.Operand.{Operand}
use Rattle.language.specs.declared.Operand.TheVariants.{Variable}
use Rattle.language.specs.declared.Expression.{Expression}
use Rattle.language.specs.declared.Expression.TheVariants.{Single}
use Rattle.language.specs.declared.Statement.{Statement}
use Rattle.language.specs.declared.Statement.TheVariants.{Read, Assign, Branch, Skip}
use Rattle.program.specs.Program.{at, InPlace, WellFormed}
use Rattle.program.proofs.Held.{at-valid}
use Rattle.std.specs.Prelude.{Option, None, Some}
use Rattle.machine.specs.Machine.{written, State, before, ended, after, stored, perform, step_from, operand_value, value}
use Rattle.base.specs.Pick.{pick}
use Rattle.flow.specs.Flow.{leads}
use Rattle.flow.proofs.Model.{forward-inside}
use Rattle.truth.specs.Truth.{InOperand, In, Defines, Shows, Uses, uses_of, SatBy}
use Rattle.marks.specs.declared.Mark.TheVariants.{Rm, Rpl, Cse}
use Rattle.lockstep.specs.Rules.{Harmless, live, unneeded, copy, work, copied_before, computed_before, replace}
use Rattle.lockstep.specs.Lockstep.{Change, Changed, Agree, Side, Together}
use Rattle.lockstep.proofs.Decisions.{operand-decided, defines-decided, assign-decided, work-decided}
use Rattle.lockstep.proofs.Likeness.{stored_here, harmless-gives, operand-self, operand_agrees, value-agrees, Like, reads, writes, assigns, branches, skips, same-like, replaced-like}
use Rattle.lockstep.proofs.Conditions.{forward-step, live-use, live-step, live-wide, unneeded-dead, Between, sure-cases, first-unsure}

-- both arms of an `if` are where a run may go
branch_leads : (b : Bool) (x n m s : ℕ) → leads (Branch x n m) s (pick b m n - 1) ≡ true
branch_leads true x n m s = or_right (eqb (n - 1) (m - 1)) (eqb (m - 1) (m - 1)) (eq-eqb (m - 1) (m - 1) refl)
branch_leads false x n m s = or_left (eqb (n - 1) (n - 1)) (eqb (m - 1) (n - 1)) (eq-eqb (n - 1) (n - 1) refl)

-- after x := e, which gave v, each y := f that it may be read as gave what y holds
assigned-gave :
    (vs : List ℕ) (x : ℕ) (e : Expression) (v y : ℕ) (f : Expression) → value vs e ≡ Some v → x < length vs → Assign x e ≡ Assign y f
    → value vs f ≡ Some (get_or (set vs x v) y 0)
assigned-gave vs x e v y f is l q =
    let to : y ≡ x = cc in
    let from : f ≡ e = cc in
    ap (value vs) from ∙ is ∙ ap (λ (n : ℕ). Some n) (sym (stored_here vs x v y l to))

-- what a copy and what a work say of the place
made-copy : (U : ℕ → ℕ → Type 0) (P : List Statement) (x : ℕ) (a : Operand) (s : ℕ) → SatBy U P (copy x a) s ↔ (at P s ≡ Assign x (Single a))
unfolding SatBy
made-copy U P x a s = (λ h. h, λ h. h)

done-work : (U : ℕ → ℕ → Type 0) (P : List Statement) (t : ℕ) (e : Expression) (s : ℕ)
    → SatBy U P (work t e) s ↔ ((at P s ≡ Assign t e) × ((y : ℕ) → In y e → Defines (at P s) y → ⊥))
unfolding SatBy
done-work U P t e s = (λ h. h, λ h. h)

-- what means the same is decided too
decided-as : {X Y : Type 0} → Y ↔ X → Dec X → Dec Y
decided-as f (yes h) = yes (f.1 h)
decided-as f (no h) = no (λ y. h (f.0 y))

module _ (U : ℕ → ℕ → Type 0) (P : List Statement) (w : WellFormed P) (wide : (x s : ℕ) → uses_of P x s → U x s) where
  -- What holds before each step: the place is one of the program's; both runs have all their values; these agree on what is live; where a
  -- copy of a in x is sure to have been made, the given x holds the given a and the changed run's a; and where t is sure to hold e, e has a
  -- value, with no fault, and it is the given t's.
  record Held (s : ℕ) (vs ws : List ℕ) : Type 0 where
    inside : s < length P
    whole : length vs ≡ variables
    whole' : length ws ≡ variables
    agree : (x : ℕ) → SatBy U P (live x) s → get_or vs x 0 ≡ get_or ws x 0
    copies : (x : ℕ) (a : Operand) → ¬ InOperand x a → SatBy U P (copied_before x a) s
        → (get_or vs x 0 ≡ operand_value vs a) × (get_or vs x 0 ≡ operand_value ws a)
    computed : (t : ℕ) (e : Expression) → SatBy U P (computed_before t e) s → value vs e ≡ Some (get_or vs t 0)

  -- ---- the first statement

  -- it assigns nothing
  first-assigns : (x : ℕ) (e : Expression) → ¬ (at P 0 ≡ Assign x e)
  first-assigns x e q =
      let placed : InPlace (length P) 0 (at P 0) = w.placed 0 (omega (arith, w.counted.0)) in
      let inner : InPlace (length P) 0 (Assign x e) = rw q at placed in
      omega (arith, inner)

  held_first : (vs : List ℕ) → length vs ≡ variables → Held 0 vs vs
  held_first vs l = record {
    inside = omega (arith, w.counted.0);
    whole = l;
    whole' = l;
    agree = λ x h. refl;
    copies = λ x a o c. absurd (first-unsure P w U x (Single a) (copy x a) (λ h. first-assigns x (Single a) ((made-copy U P x a 0).0 h)) c);
    computed = λ t e c. absurd (first-unsure P w U t e (work t e) (λ h. first-assigns t e ((done-work U P t e 0).0 h).0) c);
  }

  -- ---- one step of both from place s, where i stands: what holds before it holds after it

  module _ (s t : ℕ) (vs ws vs' ws' : List ℕ) (held : Held s vs ws) (i : Statement) (is : at P s ≡ i)
      (go : leads i s t ≡ true)
      (long : length vs' ≡ variables)
      (long' : length ws' ≡ variables)
      (frame : (y : ℕ) → ¬ Defines i y → get_or vs' y 0 ≡ get_or vs y 0)
      (frame' : (y : ℕ) → ¬ Defines i y → get_or ws' y 0 ≡ get_or ws y 0)
      (stores : (y : ℕ) → Defines i y → SatBy U P (live y) t → get_or vs' y 0 ≡ get_or ws' y 0)
      (gave : (x : ℕ) (e : Expression) → i ≡ Assign x e → value vs e ≡ Some (get_or vs' x 0)) where
    there : leads (at P s) s t ≡ true
    there = rw is go

    inside_on : t < length P
    inside_on = forward-inside P w s t held.inside (forward-step P w s t there)

    stays : (y : ℕ) → ¬ Defines (at P s) y → ¬ Defines i y
    stays y f = rw is at f

    agree_on : (x : ℕ) → SatBy U P (live x) t → get_or vs' x 0 ≡ get_or ws' x 0
    agree_on x l = by (defines-decided i x)
      where
        by : Dec (Defines i x) → get_or vs' x 0 ≡ get_or ws' x 0
        by (yes d) = stores x d l
        by (no d) = frame x d ∙ held.agree x (live-step P w U x s t held.inside there (rw is d) l) ∙ sym (frame' x d)

    copies-on : (x : ℕ) (a : Operand) → ¬ InOperand x a → SatBy U P (copied_before x a) t
        → (get_or vs' x 0 ≡ operand_value vs' a) × (get_or vs' x 0 ≡ operand_value ws' a)
    copies-on x a o c =
        by (sure-cases P w U x (Single a) (copy x a) s held.inside (decided-as (made-copy U P x a s) (assign-decided (at P s) x (Single a))) t inside_on there c)
      where
        by : SatBy U P (copy x a) s ⊎ (Between P w U x (Single a) s × SatBy U P (copied_before x a) s)
            → (get_or vs' x 0 ≡ operand_value vs' a) × (get_or vs' x 0 ≡ operand_value ws' a)
        -- the copy itself: its operand is used here, so live, and stays
        by (inl h) = (new ∙ sym given, new ∙ both ∙ sym changed)
          where
            e : at P s ≡ Assign x (Single a)
            e = (made-copy U P x a s).0 h

            kept : (y : ℕ) → InOperand y a → ¬ Defines i y
            kept y u d =
                let defined : Defines (Assign x (Single a)) y = subst (λ (j : Statement). Defines j y) (sym is ∙ e) d in
                o (rw defined at u)

            new : get_or vs' x 0 ≡ operand_value vs a
            new = let made : Some (operand_value vs a) ≡ Some (get_or vs' x 0) = gave x (Single a) (sym is ∙ e) in cc

            given : operand_value vs' a ≡ operand_value vs a
            given = operand_agrees vs' vs a (λ y u. frame y (kept y u))

            changed : operand_value ws' a ≡ operand_value ws a
            changed = operand_agrees ws' ws a (λ y u. frame' y (kept y u))

            used : (y : ℕ) → InOperand y a → Uses (at P s) y
            used y u = subst (λ (j : Statement). Uses j y) (sym e) (inl u)

            both : operand_value vs a ≡ operand_value ws a
            both = operand_agrees vs ws a (λ y u. held.agree y (live-use P w U y s held.inside (wide y s (used y u))))
        -- a statement between: it defines neither x nor a variable of a
        by (inr (b, c')) = (frame x (stays x b.undefined) ∙ was.0 ∙ sym given, frame x (stays x b.undefined) ∙ was.1 ∙ sym changed)
          where
            was : (get_or vs x 0 ≡ operand_value vs a) × (get_or vs x 0 ≡ operand_value ws a)
            was = held.copies x a o c'

            given : operand_value vs' a ≡ operand_value vs a
            given = operand_agrees vs' vs a (λ y u. frame y (stays y (b.unchanged y u)))

            changed : operand_value ws' a ≡ operand_value ws a
            changed = operand_agrees ws' ws a (λ y u. frame' y (stays y (b.unchanged y u)))

    computed-on : (x : ℕ) (e : Expression) → SatBy U P (computed_before x e) t → value vs' e ≡ Some (get_or vs' x 0)
    computed-on x e c =
        by (sure-cases P w U x e (work x e) s held.inside (decided-as (done-work U P x e s) (work-decided (at P s) x e)) t inside_on there c)
      where
        -- what touches no variable of e leaves its value
        same : ((y : ℕ) → In y e → ¬ Defines (at P s) y) → value vs' e ≡ value vs e
        same clear = value-agrees vs' vs e (λ y u. frame y (stays y (clear y u)))

        by : SatBy U P (work x e) s ⊎ (Between P w U x e s × SatBy U P (computed_before x e) s) → value vs' e ≡ Some (get_or vs' x 0)
        by (inl h) = let done = (done-work U P x e s).0 h in same done.1 ∙ gave x e (sym is ∙ done.0)
        by (inr (b, c')) = same b.unchanged ∙ held.computed x e c' ∙ ap (λ (n : ℕ). Some n) (sym (frame x (stays x b.undefined)))

    held_on : Held t vs' ws'
    held_on = record {
      inside = inside_on;
      whole = long;
      whole' = long';
      agree = agree_on;
      copies = copies-on;
      computed = computed-on;
    }

  module _ (input s : ℕ) (vs ws : List ℕ) (held : Held s vs ws) where
    valid : (i : Statement) → at P s ≡ i → Valid i
    valid i is = rw is at (at-valid P s w.valid held.inside)

    next-line : eqb (s + 1) (s + 1) ≡ true
    next-line = eq-eqb (s + 1) (s + 1) refl

    -- the same is stored in both, or both fault
    assigned-on : (x : ℕ) (e : Expression) → at P s ≡ Assign x e → (g : Option ℕ) → value vs e ≡ g → Side Held (stored g x s vs) (stored g x s ws)
    assigned-on x e is None gives = refl
    assigned-on x e is (Some v) gives =
        let below : x < variables = (valid (Assign x e) is).0 in (
          refl,
          held_on s (s + 1) vs ws (set vs x v) (set ws x v) held (Assign x e) is next-line
              (length-set vs x v ∙ held.whole) (length-set ws x v ∙ held.whole')
              (λ y d. get_or-set_other vs x y v 0 d) (λ y d. get_or-set_other ws x y v 0 d)
              (λ y d l. stored_here vs x v y (rw held.whole below) d ∙ sym (stored_here ws x v y (rw held.whole' below) d))
              (λ y f q. assigned-gave vs x e v y f gives (rw held.whole below) q),
        )

    -- two statements that do alike
    like-on : (i j : Statement) → at P s ≡ i → Like vs ws i j → Side Held (perform i input s vs) (perform j input s ws)
    like-on i j is (reads {x}) =
        let below : x < variables = valid (Read x) is in (
          refl,
          held_on s (s + 1) vs ws (set vs x input) (set ws x input) held (Read x) is next-line
              (length-set vs x input ∙ held.whole) (length-set ws x input ∙ held.whole')
              (λ y d. get_or-set_other vs x y input 0 d) (λ y d. get_or-set_other ws x y input 0 d)
              (λ y d l. stored_here vs x input y (rw held.whole below) d ∙ sym (stored_here ws x input y (rw held.whole' below) d))
              (λ y f q. cc),
        )
    like-on i j is (writes same kept) = ap₂ written same kept
    like-on i j is (assigns {x} {e} {f} same) =
        subst (λ (g : Option ℕ). Side Held (stored (value vs e) x s vs) (stored g x s ws)) same (assigned-on x e is (value vs e) refl)
    like-on i j is (branches {x} {y} {n} {m} same) = (
      ap (λ (v : ℕ). pick (eqb v 0) m n - 1) same,
      held_on s (pick (eqb (get_or vs x 0) 0) m n - 1) vs ws vs ws held (Branch x n m) is (branch_leads (eqb (get_or vs x 0) 0) x n m s)
          held.whole held.whole' (λ z d. refl) (λ z d. refl) (λ z d l. absurd d) (λ z f q. cc),
    )
    like-on i j is skips = (
      refl,
      held_on s (s + 1) vs ws vs ws held Skip is next-line held.whole held.whole' (λ z d. refl) (λ z d. refl)
          (λ z d l. absurd d) (λ z f q. cc),
    )

    -- an assignment whose variable is not live after it, and `skip`
    removed-on : (x : ℕ) (e : Expression) → at P s ≡ Assign x e → Harmless e → SatBy U P (unneeded x) s
        → Side Held (perform (Assign x e) input s vs) (perform Skip input s ws)
    removed-on x e is harmless c =
        let below : x < variables = (valid (Assign x e) is).0 in
        let gives = harmless-gives vs e harmless in
        let v = gives.0 in
        subst (λ (g : Option ℕ). Side Held (stored g x s vs) (before (s + 1) ws)) (sym gives.1) (
          refl,
          held_on s (s + 1) vs ws (set vs x v) ws held (Assign x e) is next-line
              (length-set vs x v ∙ held.whole) held.whole'
              (λ y d. get_or-set_other vs x y v 0 d) (λ y d. refl)
              (λ y d l. absurd (unneeded-dead P w U x s (s + 1) held.inside (rw is next-line) c (rw d at l)))
              (λ y f q. assigned-gave vs x e v y f gives.1 (rw held.whole below) q),
        )

    used-same : (y : ℕ) → Uses (at P s) y → get_or vs y 0 ≡ get_or ws y 0
    used-same y u = held.agree y (live-use P w U y s held.inside (wide y s u))

    -- the given x is the changed run's a, where x is used and a copy of a in x is sure to have been made
    copied-same : (x : ℕ) (a : Operand) → Shows (at P s) x → SatBy U P (copied_before x a) s → get_or vs x 0 ≡ operand_value ws a
    copied-same x a u c = by (operand-decided x a)
      where
        by : Dec (InOperand x a) → get_or vs x 0 ≡ operand_value ws a
        by (yes o) = used-same x (inl u) ∙ sym (operand-self a x ws o)
        by (no o) = (held.copies x a o c).1

    -- the changed run's t is what e gives, where t counts as used and is sure to hold e
    reused-same : (t : ℕ) (e : Expression) → U t s → SatBy U P (computed_before t e) s → value vs e ≡ value ws (Single (Variable t))
    reused-same t e u c = held.computed t e c ∙ ap (λ (n : ℕ). Some n) (held.agree t (live-use P w U t s held.inside u))

    change-on : (j : Statement) → Change U P s j → Side Held (perform (at P s) input s vs) (perform j input s ws)
    change-on j (inl e) = rw e (like-on (at P s) (at P s) refl (same-like vs ws held.whole held.whole' (at P s) used-same))
    change-on j (inr (Rm n x e, v, fit, harmless, c, u, made)) = rw (made, fit) (removed-on x e fit harmless c)
    change-on j (inr (Rpl n x a, v, (u, takes), d, c, k, made)) =
        rw made (like-on (at P s) (replace x a (at P s)) refl (replaced-like vs ws held.whole held.whole' x a (copied-same x a u c) (at P s) takes used-same))
    change-on j (inr (Cse n t e, v, ((z, fit), two), d, c, u, made)) =
        rw (made, fit) (like-on (Assign z e) (Assign z (Single (Variable t))) fit (assigns (reused-same t e u c)))

  module _ (Q : List Statement) (changed : Changed U P Q) (input : ℕ) where
    step-on : (a b : State) → Side Held a b → Side Held (step_from P input a) (step_from Q input b)
    step-on (before s vs) (before t ws) (same, held) =
        subst (λ (u : ℕ). Side Held (perform (at P s) input s vs) (perform (at Q u) input u ws)) same
        (change-on input s vs ws held (at Q s) (changed.changes s held.inside))
    step-on (before s vs) (ended v) h = absurd h
    step-on (ended v) (before t ws) h = absurd h
    step-on (ended v) (ended u) h = h

    held_after : (vs : List ℕ) → length vs ≡ variables → (k : ℕ) → Side Held (after P vs input k) (after Q vs input k)
    unfolding after
    held_after vs l zero = (refl, held_first vs l)
    held_after vs l (suc k) = step-on (after P vs input k) (after Q vs input k) (held_after vs l k)

-- where both stand, what is true may be weakened
side-map :
    (R S : ℕ → List ℕ → List ℕ → Type 0) → ((s : ℕ) (vs ws : List ℕ) → R s vs ws → S s vs ws)
    → (a b : State) → Side R a b → Side S a b
side-map R S f (before s vs) (before t ws) (same, h) = (same, f s vs ws h)
side-map R S f (before s vs) (ended v) h = h
side-map R S f (ended v) (before t ws) h = h
side-map R S f (ended v) (ended u) h = h

-- for every start, input and number of steps
pub lockstep :
    {U : ℕ → ℕ → Type 0} {P Q : List Statement} → WellFormed P → Changed U P Q → (vs : List ℕ) → length vs ≡ variables → (input k : ℕ)
    → Side (Agree P) (after P vs input k) (after Q vs input k)
lockstep {U} {P} {Q} w changed vs l input k =
    side-map (Held U P w changed.wide) (Agree P) (λ s us ws h x l. h.agree x (live-wide P w U changed.wide x s l)) (after P vs input k) (after Q vs input k)
    (held_after U P w changed.wide Q changed input vs l k)

-- "After k steps, for every k from 0 on and beyond any budget": the same without the variables
pub together :
    {U : ℕ → ℕ → Type 0} {P Q : List Statement} → WellFormed P → Changed U P Q → (vs : List ℕ) → length vs ≡ variables → (input k : ℕ)
    → Together (after P vs input k) (after Q vs input k)
together {U} {P} {Q} w changed vs l input k =
    side-map (Agree P) (λ s us ws. Unit) (λ s us ws h. tt) (after P vs input k) (after Q vs input k) (lockstep w changed vs l input k)
