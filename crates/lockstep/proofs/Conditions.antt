-- What the conditions of the rules tell, step by step, where variables count as used as U says. `rm`: a variable that is used is live, one that
-- is live after a step is live before it unless it is defined there, and one that is unneeded is live after no step. `rpl` and `cse`: what is sure
-- to have been done before a place was done at the place before, or is sure to have been done before that one, which touches neither side;
-- before the first statement nothing is. Assumes nothing.
use mathlib.Core.Path.{◌≡◌, refl, sym, subst}
use mathlib.Core.Bool.{true, not, ◌&&◌}
use mathlib.Core.Logic.{◌⊎◌, inl, inr, ⊎_elim}
use mathlib.Core.List.{List}
use Prim.Native.Nat.{ℕ, ◌+◌, ◌-◌, ◌<◌}
use native.Mathlib.Omega.{arith}
use lib.Dec.{eqb, ltb}
use lib.ListN.{length}
use borrow.Author.Tests.{eqb-true, ltb-true, lt-ltb}
use Rattle.base.proofs.Bools.{clash, or_case, or_left, and_left, and_right, and_both}
use Rattle.language.specs.declared.Expression.{Expression}
use Rattle.language.specs.declared.Statement.{Statement}
use Rattle.language.specs.declared.Statement.TheVariants.{Read, Write, Assign, Branch, Skip}
use Rattle.program.specs.Program.{at, Targets, WellFormed}
use Rattle.flow.specs.Flow.{leads, is_write, precedes, some, steps}
use Rattle.ctl.specs.Paths.{forward, backward}
use Rattle.flow.proofs.Model.{steps-graph}
use Rattle.condition.specs.Condition.{negation, Condition, atom, unary}
use Rattle.truth.specs.Truth.{In, Defines, uses_of, Sat, SatBy}
use Rattle.condition.specs.declared.Atom.TheVariants.{Def, Use}
use Rattle.lockstep.specs.Rules.{live, untouched, sure, unneeded, sure_before}
use Rattle.lockstep.proofs.Expansion.{denied, some_next, all-next, next-all, until-now, until-later, weak-now, weak-later}

-- no statement leads to the first
leads-first : (N s : ℕ) (i : Statement) → Targets N i → leads i s 0 ≡ true → ⊥
leads-first N s (Read x) t e = omega (arith, eqb-true (s + 1) 0 e)
leads-first N s (Write x) t e = clash e refl
leads-first N s (Assign x v) t e = omega (arith, eqb-true (s + 1) 0 e)
leads-first N s (Branch x n m) t e =
    ⊎_elim (λ h. omega (arith, eqb-true (n - 1) 0 h)) (λ h. omega (arith, eqb-true (m - 1) 0 h))
    (or_case (eqb (n - 1) 0) (eqb (m - 1) 0) e)
leads-first N s Skip t e = omega (arith, eqb-true (s + 1) 0 e)

module _ (P : List Statement) (w : WellFormed P) where
  pub forward-step : (s t : ℕ) → leads (at P s) s t ≡ true → steps P forward s t ≡ true
  forward-step s t go = or_left (leads (at P s) s t) (is_write (at P s) && eqb s t) go

  backward-step : (s t : ℕ) → s < length P → leads (at P s) s t ≡ true → steps P backward t s ≡ true
  backward-step s t l go =
      or_left (precedes P s t) (eqb t s && not (some (length P) (λ u. precedes P u t)))
      (and_both (ltb s (length P)) (leads (at P s) s t) (lt-ltb s (length P) l) go)

  first-precedes : (t : ℕ) → precedes P t 0 ≡ true → ⊥
  first-precedes t e =
      let inside : t < length P = ltb-true t (length P) (and_left (ltb t (length P)) (leads (at P t) t 0) e) in
      leads-first (length P) t (at P t) (w.aimed t inside) (and_right (ltb t (length P)) (leads (at P t) t 0) e)

  -- so the first steps back to itself alone
  first_back : (t : ℕ) → steps P backward 0 t ≡ true → t ≡ 0
  first_back t e =
      ⊎_elim (λ h. absurd (first-precedes t h))
      (λ h. sym (eqb-true 0 t (and_left (eqb 0 t) (not (some (length P) (λ u. precedes P u 0))) h)))
      (or_case (precedes P t 0) (eqb 0 t && not (some (length P) (λ u. precedes P u 0))) e)

  module _ (U : ℕ → ℕ → Type 0) where
    -- ---- `rm`

    pub live-use : (x s : ℕ) → s < length P → U x s → SatBy U P (live x) s
    unfolding SatBy
    live-use x s l u = until-now U w forward l (unary negation (atom (Def x))) (atom (Use x)) u

    pub live-step : (x s t : ℕ) → s < length P → leads (at P s) s t ≡ true → ¬ Defines (at P s) x → SatBy U P (live x) t → SatBy U P (live x) s
    unfolding SatBy
    live-step x s t l go d h = until-later U w forward l (unary negation (atom (Def x))) (atom (Use x)) d t (forward-step s t go) h

    -- what is live by the program's own uses is live by more
    pub live-wide : ((x s : ℕ) → uses_of P x s → U x s) → (x s : ℕ) → Sat P (live x) s → SatBy U P (live x) s
    unfolding SatBy
    live-wide wide x s (π, f, (i, y, b)) = (π, f, (i, wide x (π i) y, b))

    -- what is unneeded is live after no step
    pub unneeded-dead : (x s t : ℕ) → s < length P → leads (at P s) s t ≡ true → SatBy U P (unneeded x) s → ¬ SatBy U P (live x) t
    unneeded-dead x s t l go c h = denied U P _ s c (some_next U w forward l (live x) t (forward-step s t go) h)

    -- ---- `rpl` and `cse`

    module _ (x : ℕ) (e : Expression) where
      -- the place touches neither x nor e, and isn't the first
      pub record Between (s : ℕ) : Type 0 where
        pub undefined : ¬ Defines (at P s) x
        pub unchanged : (y : ℕ) → In y e → ¬ Defines (at P s) y
        pub later : ¬ (s ≡ 0)

      untouched-between : (s : ℕ) → SatBy U P (untouched x e) s → Between s
      unfolding SatBy
      untouched-between s h = record { undefined = h.0.0; unchanged = h.0.1; later = h.1 }

      module _ (source : Condition) where
        module _ (s : ℕ) (l : s < length P) where
          -- done at a place or sure to have been done before it, and not done there: the place is one between
          sure-between : SatBy U P (sure x e source) s → ¬ SatBy U P source s → Between s
          sure-between c none = record {
            undefined = λ d. not-out (λ h. (untouched-between s h).undefined d);
            unchanged = λ y u d. not-out (λ h. (untouched-between s h).unchanged y u d);
            later = λ q. not-out (λ h. (untouched-between s h).later q);
          }
            where
              not-out : ¬ ¬ SatBy U P (untouched x e) s
              not-out = weak-now U w backward l (untouched x e) source c none

          -- and it was done before
          sure-earlier : SatBy U P (sure x e source) s → ¬ SatBy U P source s → SatBy U P (sure_before x e source) s
          sure-earlier c none = all-next U w backward l (sure x e source) (weak-later U w backward l (untouched x e) source c none)

          -- sure to have been done before t, where s leads to t: done at s, or done before s, which is one between
          pub sure-cases : Dec (SatBy U P source s) → (t : ℕ) → t < length P → leads (at P s) s t ≡ true → SatBy U P (sure_before x e source) t
              → SatBy U P source s ⊎ (Between s × SatBy U P (sure_before x e source) s)
          sure-cases decided t k go c = by decided
            where
              now : SatBy U P (sure x e source) s
              now = next-all U w backward k (sure x e source) c s (backward-step s t l go)

              by : Dec (SatBy U P source s) → SatBy U P source s ⊎ (Between s × SatBy U P (sure_before x e source) s)
              by (yes h) = inl h
              by (no h) = inr (sure-between now h, sure-earlier now h)

        -- nothing is sure to have been done before the first statement
        pub first-unsure : ¬ SatBy U P source 0 → ¬ SatBy U P (sure_before x e source) 0
        first-unsure none c =
            let first : 0 < length P = omega (arith, w.counted.0) in
            let back = (steps-graph P w backward).onward 0 first in
            let there = next-all U w backward first (sure x e source) c back.0 back.1 in
            (sure-between 0 first (subst (SatBy U P (sure x e source)) (first_back back.0 back.1) there) none).later refl
