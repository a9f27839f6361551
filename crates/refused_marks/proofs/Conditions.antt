-- A mark's published condition is false at a place exactly where a path from there shows it: one that does speaks against the condition, and where
-- there is none it is true. Assumes nothing.
use mathlib.Core.Path.{◌≡◌, refl, subst}
use mathlib.Core.Bool.{Bool, true, false}
use mathlib.Core.List.{List}
use Prim.Native.Nat.{ℕ, zero, suc, ◌≤◌, ◌<◌}
use native.Mathlib.Decide.{dec_lt}
use native.Mathlib.Omega.{arith}
use lib.ListN.{length}
use Rattle.language.specs.declared.Expression.{Expression}
use Rattle.language.specs.declared.Expression.TheVariants.{Single}
use Rattle.language.specs.declared.Statement.{Statement}
use Rattle.ctl.specs.Paths.{E, A, Paths, Until, Weak, Graph, forward, backward}
use Rattle.ctl.proofs.Paths.{paths-map, weak-map, next-iff}
use Rattle.labelling.specs.declared.Operator.TheVariants as op
use Rattle.flow.specs.Flow.{steps}
use Rattle.condition.specs.Condition.{Condition}
use Rattle.truth.specs.Truth.{uses_of, SatBy}
use Rattle.lassos.specs.Lassos.{any, Not, Neither}
use Rattle.lassos.proofs.Complete.{until-way}
use Rattle.lassos.proofs.Sound.{bears-some, against-all}
use Rattle.departures.specs.Departures.{Departs}
use Rattle.departures.proofs.Departures.{departs-onward, onward-departs, departs-same}
use Rattle.marks.specs.declared.Mark.{Mark}
use Rattle.marks.specs.declared.Mark.TheVariants.{Rm, Rpl, Cse}
use Rattle.lockstep.specs.Rules.{untouched, sure, sure_before, copy, work, live, published}
use Rattle.rewriting.specs.Verdicts.{place}
use Rattle.refused_marks.specs.RefusedMarks.{direction_of, Passes, ShownBy}
use Rattle.refused_marks.specs.Ends.{Source, Untouched, Ends}
use Rattle.refused_marks.proofs.Culprits.{culprit-ends}

-- ---- a step, and what some path from there on has

module _ {n : ℕ} {step : ℕ → ℕ → Bool} (g : Graph n step) (s : ℕ) (low : s < n) (X Y : ℕ → Type 0) (none : (ls : List ℕ) → Departs step X Y s ls → ⊥) where
  no-path : (t : ℕ) → step s t ≡ true → Paths E step t (Until X Y) → ⊥
  no-path t h p = let w = until-way g t (g.inside s t low h) X Y p in none _ (onward-departs step X Y s t w.0 h w.2 w.3)

-- no path comes to a place with neither, without S on the way: so all have T until they have S, or for ever
weak-all : (step : ℕ → ℕ → Bool) (T S : ℕ → Type 0) → ((t : ℕ) → ¬ (¬ T t) → T t) → (t : ℕ) → (Paths E step t (Until (Not S) (Neither T S)) → ⊥) → Paths A step t (Weak T S)
weak-all step T S stable t nowhere π w (nu, ng) = ng λ i. upto (suc i) i (omega arith)
  where
    here : (i : ℕ) → ((j : ℕ) → j < i → T (π j)) → T (π i)
    here i before = stable (π i) λ bad. nowhere (π, w, (i, (bad, none i (omega arith)), λ j l. none j (omega arith)))
      where
        none : (j : ℕ) → j ≤ i → ¬ S (π j)
        none j l s = nu (j, s, λ k b. before k (omega arith))

    upto : (i j : ℕ) → j < i → T (π j)
    upto zero j l = absurd (omega arith)
    upto (suc i) j l =
        elim (dec_lt j i) [
          | yes b ↦ upto i j b
          | no b ↦ let e : i ≡ j = omega arith in subst (λ (k : ℕ). T (π k)) e (here i (upto i))
        ]

untouched-stable : (P : List Statement) (x : ℕ) (e : Expression) (t : ℕ) → ¬ (¬ Untouched P x e t) → Untouched P x e t
untouched-stable P x e t h = (λ d. h (λ u. u.0 d), λ d. h (λ u. u.1 d), λ d. h (λ u. u.2 d))

-- ---- the conditions in these words

module _ (U : ℕ → ℕ → Type 0) (P : List Statement) (x : ℕ) (e : Expression) where
  to-untouched : (t : ℕ) → SatBy U P (untouched x e) t → Untouched P x e t
  unfolding SatBy
  to-untouched t ((d, k), z) = (d, λ s. k s.0 s.1 s.2, z)

  of-untouched : (t : ℕ) → Untouched P x e t → SatBy U P (untouched x e) t
  unfolding SatBy
  of-untouched t (d, k, z) = ((d, λ y i f. k (y, i, f)), z)

  module _ (again : Bool) (source : Condition) (to : (t : ℕ) → SatBy U P source t → Source again P x e t) (of : (t : ℕ) → Source again P x e t → SatBy U P source t)
      (g : Graph (length P) (steps P backward)) (s : ℕ) (low : s < length P) where
    abbrev Spoiling : List ℕ → Type 0
    Spoiling = Departs (steps P backward) (Not (Source again P x e)) (Neither (Untouched P x e) (Source again P x e)) s

    spoilt-some : ¬ SatBy U P (sure_before x e source) s → ((ls : List ℕ) → Spoiling ls → ⊥) → ⊥
    unfolding SatBy
    spoilt-some unmet none = unmet ((next-iff g A (SatBy U P (sure x e source)) s low).0 λ t h.
        paths-map (steps P backward) A _ _ t (λ π w. weak-map (Untouched P x e) (Source again P x e) (SatBy U P (untouched x e)) (SatBy U P source) π (λ i. of-untouched (π i)) (λ i. of (π i)))
        (weak-all (steps P backward) (Untouched P x e) (Source again P x e) (untouched-stable P x e) t (no-path g s low _ _ none t h)))

    spoilt-unmet : (ls : List ℕ) → Spoiling ls → ¬ SatBy U P (sure_before x e source) s
    unfolding SatBy
    spoilt-unmet ls d sat =
        let o = departs-onward (steps P backward) _ _ s ls d in
        let l = g.inside s o.t low o.goes in
        against-all g o.t l op.Weak (Untouched P x e) (Source again P x e) any o.ks o.way o.reaches
        (paths-map (steps P backward) A _ _ o.t (λ π w. weak-map (SatBy U P (untouched x e)) (SatBy U P source) (Untouched P x e) (Source again P x e) π (λ i. to-untouched (π i)) (λ i. to (π i))) ((next-iff g A (SatBy U P (sure x e source)) s low).1 sat o.t o.goes))

module _ (U : ℕ → ℕ → Type 0) (P : List Statement) (x : ℕ) (e : Expression) where
  work-to : (t : ℕ) → SatBy U P (work x e) t → Source true P x e t
  unfolding SatBy
  work-to t (i, k) = (i, λ s. k s.0 s.1 s.2)

  work-of : (t : ℕ) → Source true P x e t → SatBy U P (work x e) t
  unfolding SatBy
  work-of t (i, k) = (i, λ y h d. k (y, h, d))

-- ---- the marks

module _ (U : ℕ → ℕ → Type 0) (P : List Statement) (g : (d : Mark) → Graph (length P) (steps P (direction_of d))) (s : ℕ) (low : s < length P) where
  -- where the condition is false there can't be none
  pub unmet-some : (m : Mark) → ¬ SatBy U P (published m) s → ((ls : List ℕ) → Departs (steps P (direction_of m)) (Passes P m) (Ends U P m) s ls → ⊥) → ⊥
  unfolding SatBy
  unmet-some (Rm n x e) unmet none = unmet λ h.
      let o = (next-iff (g (Rm n x e)) E (SatBy U P (live x)) s low).1 h in
      no-path (g (Rm n x e)) s low _ _ none o.0 o.1 o.2
  unmet-some (Rpl n x a) unmet none = spoilt-some U P x (Single a) false (copy x a) (λ t h. h) (λ t h. h) (g (Rpl n x a)) s low unmet none
  unmet-some (Cse n x e) unmet none = spoilt-some U P x e true (work x e) (work-to U P x e) (work-of U P x e) (g (Cse n x e)) s low unmet none

  -- and where there is one it is false
  pub some-unmet : (m : Mark) (ls : List ℕ) → Departs (steps P (direction_of m)) (Passes P m) (Ends U P m) s ls → ¬ SatBy U P (published m) s
  unfolding SatBy
  some-unmet (Rm n x e) ls d sat =
      let g' = g (Rm n x e) in
      let o = departs-onward (steps P forward) _ _ s ls d in
      sat ((next-iff g' E (SatBy U P (live x)) s low).0 (o.t, o.goes, bears-some g' o.t (g'.inside s o.t low o.goes) op.Until (Passes P (Rm n x e)) (U x) any o.ks o.way o.reaches))
  some-unmet (Rpl n x a) ls d sat = spoilt-unmet U P x (Single a) false (copy x a) (λ t h. h) (λ t h. h) (g (Rpl n x a)) s low ls d sat
  some-unmet (Cse n x e) ls d sat = spoilt-unmet U P x e true (work x e) (work-to U P x e) (work-of U P x e) (g (Cse n x e)) s low ls d sat

  -- so a path that shows a culprit speaks against the condition
  pub shown-unmet : ((x t : ℕ) → uses_of P x t → U x t) → (m : Mark) → place m ≡ s → (c : ℕ) (ls : List ℕ) → ShownBy U P m c ls → ¬ SatBy U P (published m) s
  shown-unmet wider m is c ls h = some-unmet m ls (departs-same (g m) s low (λ a b l. refl) (λ t l x. x) (λ t l y. culprit-ends U P wider m t c y) (rw is at h))
