-- A labeller that computes: for every condition on every program, the places at which it is true by paths, where tests tell what counts as
-- used. So each condition is decided at each place. Assumes nothing.
use mathlib.Core.Path.{◌≡◌, refl, sym, ◌∙◌}
use mathlib.Core.List.{List}
use mathlib.Core.Bool.{Bool, true, false, not, ◌&&◌, ◌||◌}
use mathlib.Core.Logic.Iff
use mathlib.Core.Logic.{◌↔◌, inl, inr, ⊎_elim}
use Prim.Native.Nat.{ℕ, ◌<◌}
use lib.ListN.{length}
use Rattle.language.specs.declared.Statement.{Statement}
use Rattle.program.specs.Program.{at, WellFormed}
use Rattle.base.proofs.Bools.{split, clash, and_left, and_right, and_both, or_case, or_left, or_right, not_of_false, false_of_not}
use Rattle.ctl.specs.Paths.{Quant, Paths, So, Direction}
use Rattle.ctl.specs.Tables.{other}
use Rattle.ctl.proofs.Least.{every, any, tests, test, tests-at, grow, done, least, onto, onto-iff, until_rule, until-least}
use Rattle.ctl.proofs.Paths.{next-iff, finally-iff, globally-iff}
use Rattle.ctl.proofs.Until.{until-table}
use Rattle.ctl.proofs.Weak.{non, nor, weak-table}
use Rattle.flow.specs.Flow.{some, steps}
use Rattle.flow.proofs.Model.{steps-graph}
use Rattle.condition.specs.Condition.{PathUnary, next, finally, globally, PathBinary, until, weak, Unary, negation, Binary, conjunction, disjunction, Condition, atom, unary, binary}
use Rattle.truth.specs.Truth.{SaidOne, SaidTwo, uses_of, Sat, SatBy}
use Rattle.truth.proofs.By.{unary-same, binary-same}
use Rattle.base.proofs.Decides.{decides-iff}
use Rattle.cases.proofs.Atoms.{DecidesUses, own_uses, own-decides, holds, holds-decides}

-- a set made by a test has the places at which the test holds
tests-iff : (n : ℕ) (f : ℕ → Bool) (s : ℕ) → s < n → (test (tests n f) s ≡ true) ↔ (f s ≡ true)
tests-iff n f s l = (λ e. sym (tests-at n f s l) ∙ e, λ e. tests-at n f s l ∙ e)

abbrev everywhere : ℕ → Bool
everywhere s = true

abbrev nowhere : ℕ → Bool
nowhere s = false

module _ (P : List Statement) (w : WellFormed P) where
  -- ---- path operators, of sets

  unfoldable pub until_set : Quant → Direction → (ℕ → Bool) → (ℕ → Bool) → List Bool
  unfolding least grow done until_rule onto tests any every some
  until_set k d p q = least (length P) (until_rule (steps-graph P w d) k p q)

  unfoldable pub weak_set : Quant → Direction → (ℕ → Bool) → (ℕ → Bool) → List Bool
  unfolding until_set
  weak_set k d p q = let z = until_set (other k) d (non q) (nor p q) in tests (length P) (λ s. not (test z s))

  unfoldable pub one_set : PathUnary → Quant → Direction → (ℕ → Bool) → List Bool
  unfolding until_set weak_set
  one_set next k d p = tests (length P) (onto (steps-graph P w d) k p)
  one_set finally k d p = until_set k d everywhere p
  one_set globally k d p = weak_set k d p nowhere

  unfoldable pub two_set : PathBinary → Quant → Direction → (ℕ → Bool) → (ℕ → Bool) → List Bool
  unfolding until_set weak_set
  two_set until k d p q = until_set k d p q
  two_set weak k d p q = weak_set k d p q

  module _ (k : Quant) (d : Direction) (s : ℕ) (l : s < length P) where
    until-set-iff : (p q : ℕ → Bool) → (test (until_set k d p q) s ≡ true) ↔ Paths k (steps P d) s (SaidTwo until (So p) (So q))
    unfolding until_set
    until-set-iff p q = until-table (steps-graph P w d) p q k _ (until-least (steps-graph P w d) k p q) s l

    weak-set-iff : (p q : ℕ → Bool) → (test (weak_set k d p q) s ≡ true) ↔ Paths k (steps P d) s (SaidTwo weak (So p) (So q))
    unfolding weak_set until_set
    weak-set-iff p q =
        Iff.trans (tests-iff (length P) _ s l)
        (weak-table (steps-graph P w d) p q _ s l k (until-least (steps-graph P w d) (other k) (non q) (nor p q)))

    one-set-iff : (o : PathUnary) (p : ℕ → Bool) → (test (one_set o k d p) s ≡ true) ↔ Paths k (steps P d) s (SaidOne o (So p))
    unfolding one_set
    one-set-iff next p =
        Iff.trans (tests-iff (length P) (onto (steps-graph P w d) k p) s l)
        (Iff.trans (onto-iff (steps-graph P w d) k p s l) (next-iff (steps-graph P w d) k (So p) s l))
    one-set-iff finally p = Iff.trans (until-set-iff everywhere p) (finally-iff (steps-graph P w d) k everywhere (So p) (λ t b. refl) s l)
    one-set-iff globally p = Iff.trans (weak-set-iff p nowhere) (globally-iff (steps-graph P w d) k p nowhere (λ t b. refl) s l)

    two-set-iff : (o : PathBinary) (p q : ℕ → Bool) → (test (two_set o k d p q) s ≡ true) ↔ Paths k (steps P d) s (SaidTwo o (So p) (So q))
    unfolding two_set
    two-set-iff until p q = until-set-iff p q
    two-set-iff weak p q = weak-set-iff p q

  -- ---- conditions

  module _ (used : ℕ → ℕ → Bool) where
    -- the places at which the condition is true, where `used` tells which variable counts as used at which place
    unfoldable pub label_by : Condition → List Bool
    unfolding tests holds one_set two_set
    label_by (atom a) = tests (length P) (λ s. holds (λ x. used x s) (length P) (at P s) s a)
    label_by (unary negation p) = let t = label_by p in tests (length P) (λ s. not (test t s))
    label_by (unary (Unary.path k d o) p) = let t = label_by p in one_set o k d (test t)
    label_by (binary conjunction p q) = let t = label_by p in let u = label_by q in tests (length P) (λ s. test t s && test u s)
    label_by (binary disjunction p q) = let t = label_by p in let u = label_by q in tests (length P) (λ s. test t s || test u s)
    label_by (binary (Binary.path k d o) p q) = let t = label_by p in let u = label_by q in two_set o k d (test t) (test u)

    module _ (U : ℕ → ℕ → Type 0) (decided : DecidesUses used U) where
      -- the set of a condition is its truth by paths, at every place
      pub labelled_by : (c : Condition) (s : ℕ) → s < length P → (test (label_by c) s ≡ true) ↔ SatBy U P c s
      unfolding label_by SatBy
      labelled_by (atom a) s l =
          Iff.trans (tests-iff (length P) (λ s. holds (λ x. used x s) (length P) (at P s) s a) s l) (decides-iff (holds (λ x. used x s) (length P) (at P s) s a) (holds-decides (λ x. used x s) (λ x. U x s) (λ x. decided x s) (length P) (at P s) s a))
      labelled_by (unary negation p) s l =
          Iff.trans (tests-iff (length P) (λ s. not (test (label_by p) s)) s l) (
            λ e x. clash ((labelled_by p s l).1 x) (false_of_not (test (label_by p) s) e),
            λ n. ⊎_elim (λ t. absurd (n ((labelled_by p s l).0 t))) (not_of_false (test (label_by p) s)) (split (test (label_by p) s)),
          )
      labelled_by (unary (Unary.path k d o) p) s l =
          Iff.trans (one-set-iff k d s l o (test (label_by p))) (unary-same P (λ t. t < length P) (λ d. (steps-graph P w d).inside) (Unary.path k d o) (So (test (label_by p))) (SatBy U P p) (labelled_by p) s l)
      labelled_by (binary conjunction p q) s l =
          Iff.trans (tests-iff (length P) (λ s. test (label_by p) s && test (label_by q) s) s l) (
            λ e. ((labelled_by p s l).0 (and_left (test (label_by p) s) (test (label_by q) s) e), (labelled_by q s l).0 (and_right (test (label_by p) s) (test (label_by q) s) e)),
            λ h. and_both (test (label_by p) s) (test (label_by q) s) ((labelled_by p s l).1 h.0) ((labelled_by q s l).1 h.1),
          )
      labelled_by (binary disjunction p q) s l =
          Iff.trans (tests-iff (length P) (λ s. test (label_by p) s || test (label_by q) s) s l) (
            λ e. ⊎_elim (λ t. inl ((labelled_by p s l).0 t)) (λ t. inr ((labelled_by q s l).0 t)) (or_case (test (label_by p) s) (test (label_by q) s) e),
            λ h. ⊎_elim (λ x. or_left (test (label_by p) s) (test (label_by q) s) ((labelled_by p s l).1 x)) (λ x. or_right (test (label_by p) s) (test (label_by q) s) ((labelled_by q s l).1 x)) h,
          )
      labelled_by (binary (Binary.path k d o) p q) s l =
          Iff.trans (two-set-iff k d s l o (test (label_by p)) (test (label_by q)))
          (binary-same P (λ t. t < length P) (λ d. (steps-graph P w d).inside) (Binary.path k d o) (So (test (label_by p))) (So (test (label_by q))) (SatBy U P p) (SatBy U P q) (labelled_by p) (labelled_by q) s l)

  -- by the program's own uses
  unfoldable pub label : Condition → List Bool
  unfolding label_by
  label c = label_by (own_uses P) c

  pub labelled : (c : Condition) (s : ℕ) → s < length P → (test (label c) s ≡ true) ↔ Sat P c s
  unfolding label
  labelled c s l = labelled_by (own_uses P) (uses_of P) (own-decides P) c s l

  -- so it is true or false there
  pub sat-decided : (c : Condition) (s : ℕ) → s < length P → Dec (Sat P c s)
  sat-decided c s l = ⊎_elim (λ t. yes ((labelled c s l).0 t)) (λ f. no (λ x. clash ((labelled c s l).1 x) f)) (split (test (label c) s))
