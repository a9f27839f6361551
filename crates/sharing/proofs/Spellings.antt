-- Conditions spelled alike are equal where they are valid, so operators are alike where they and their operands are. Assumes nothing.
use mathlib.Core.Path.{◌≡◌, refl, ap}
use mathlib.Core.Bool.{true}
use mathlib.Core.List.{List, [], ◌∷◌}
use mathlib.Core.Logic.{◌↔◌}
use Prim.Native.Nat.{ℕ}
use native.Mathlib.Omega.{arith}
use lib.Dec.{eqb}
use borrow.Author.Tests.{eqb-true, eq-eqb}
use Rattle.base.proofs.Bools.{and_left, and_right, and_both}
use Rattle.condition.specs.Condition.{Unary, Binary, Condition, unary, binary, spell_condition, ValidCondition}
use Rattle.condition_reader.proofs.Spelling.{condition-unique}
use Rattle.sharing.specs.Sharing.{Alike, same_text}

-- the test says so exactly where the texts are equal
pub same-equal : (t u : List ℕ) → same_text t u ≡ true → t ≡ u
unfolding same_text
same-equal [] [] e = refl
same-equal [] (b ∷ u) e = let z : ◌≡◌ {A = ℕ} 0 1 = cc in absurd (omega arith)
same-equal (a ∷ t) [] e = let z : ◌≡◌ {A = ℕ} 0 1 = cc in absurd (omega arith)
same-equal (a ∷ t) (b ∷ u) e =
    let h = eqb-true a b (and_left (eqb a b) (same_text t u) e) in
    let i = same-equal t u (and_right (eqb a b) (same_text t u) e) in
    cc

pub equal-same : (t : List ℕ) → same_text t t ≡ true
unfolding same_text
equal-same [] = refl
equal-same (a ∷ t) = and_both (eqb a a) (same_text t t) (eq-eqb a a refl) (equal-same t)

pub alike-equal : (c d : Condition) → ValidCondition c → ValidCondition d → Alike c d → c ≡ d
alike-equal c d v w e = condition-unique (spell_condition c) c d (record { spelling = refl; valid = v }) (record { spelling = e; valid = w })

module _ (o o' : Unary) (p p' : Condition) (v : ValidCondition p) (v' : ValidCondition p') where
  pub unary-alike : Alike (unary o p) (unary o' p') ↔ ((o ≡ o') × Alike p p')
  unfolding spell_condition
  unary-alike = (
    λ e. let h = alike-equal (unary o p) (unary o' p') v v' e in let i : p ≡ p' = cc in (cc, ap spell_condition i),
    λ (f, g). rw (f, g),
  )

module _ (o o' : Binary) (p p' q q' : Condition) (v : ValidCondition p × ValidCondition q) (v' : ValidCondition p' × ValidCondition q') where
  pub binary-alike : Alike (binary o p q) (binary o' p' q') ↔ ((o ≡ o') × Alike p p' × Alike q q')
  unfolding spell_condition
  binary-alike = (
    λ e.
        let h = alike-equal (binary o p q) (binary o' p' q') v v' e in
        let i : p ≡ p' = cc in
        let j : q ≡ q' = cc in
        (cc, ap spell_condition i, ap spell_condition j),
    λ (f, g, h). rw (f, g, h),
  )
