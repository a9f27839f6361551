-- From the rows of the operands to the truth of the part. Assumes nothing.
use mathlib.Core.Path.{◌≡◌, sym}
use mathlib.Core.Bool.{true, false}
use mathlib.Core.List.{List}
use mathlib.Core.Logic.Iff
use mathlib.Core.Logic.{◌↔◌, ⊎_elim, inl, inr}
use Prim.Native.Nat.{ℕ, ◌-◌, ◌<◌}
use native.Mathlib.Omega.{arith}
use lib.ListN.{length}
use borrow.Author.Tests.{lt-ltb, le-ltb}
use Rattle.language.specs.declared.Statement.{Statement}
use Rattle.ctl.specs.Paths.{quant}
use Rattle.ctl.proofs.Paths.{paths-same}
use Rattle.labelling.proofs.Labels.{said-iff}
use Rattle.flow.specs.Flow.{steps}
use Rattle.flow.specs.FlowOf.{Flow, FlowOf}
use Rattle.condition.specs.Condition.{Condition, atom, unary, binary}
use Rattle.condition.specs.Words.{code_in, left_in}
use Rattle.condition.proofs.Words.{unary-code, binary-code}
use Rattle.truth.specs.Truth.{SatBy}
use Rattle.table.specs.Table.{part_at}
use Rattle.table.specs.Rules.{Operation, one, two, code_of, rule_of, SatRule, flow_steps}
use Rattle.table.specs.Fill.{left_of, Tells}
use Rattle.table.specs.declared.Rule.{Rule}
use Rattle.table.specs.declared.Rule.TheVariants as rule
use Rattle.table.proofs.Rules.{unary-rule, binary-rule}

-- a rule on the code's graphs says what it says on the model's steps, of operands that mean the same
module _ (P : List Statement) (f : Flow) (flows : FlowOf P f) (X Y X' Y' : ℕ → Type 0)
    (x : (t : ℕ) → t < length P → X t ↔ X' t) (y : (t : ℕ) → t < length P → Y t ↔ Y' t) where
  pub rule-sat : (r : Rule) (s : ℕ) → s < length P → SatRule (flow_steps (length P) f) r X Y s ↔ SatRule (steps P) r X' Y' s
  rule-sat rule.Negation s l = (λ n h. n ((x s l).1 h), λ n h. n ((x s l).0 h))
  rule-sat rule.Conjunction s l = (λ h. ((x s l).0 h.0, (y s l).0 h.1), λ h. ((x s l).1 h.0, (y s l).1 h.1))
  rule-sat rule.Disjunction s l = (⊎_elim (λ h. inl ((x s l).0 h)) (λ h. inr ((y s l).0 h)), ⊎_elim (λ h. inl ((x s l).1 h)) (λ h. inr ((y s l).1 h)))
  rule-sat (rule.Path o all true) s l =
      Iff.trans (said-iff flows.backward.graph o (quant all) X Y X' Y' x y s l) (paths-same flows.backward.graph _ flows.exact_backward (quant all) _ s l)
  rule-sat (rule.Path o all false) s l =
      Iff.trans (said-iff flows.forward.graph o (quant all) X Y X' Y' x y s l) (paths-same flows.forward.graph _ flows.exact_forward (quant all) _ s l)
  rule-sat rule.Nothing s l = (λ h. h, λ h. h)

pub iff-of : {X Y : Type 0} → X ≡ Y → X ↔ Y
iff-of e = rw e (λ h. h, λ h. h)

-- the operator of a part that is no atom, and its operands' parts
pub record Operands (U : ℕ → ℕ → Type 0) (P : List Statement) (c : Condition) (k w : ℕ) : Type 0 where
  pub operation : Operation
  pub coded : code_of operation ≡ code_in w
  pub inside : left_of w k < k
  pub sat : (s : ℕ) → SatRule (steps P) (rule_of operation) (SatBy U P (part_at c (left_of w k))) (SatBy U P (part_at c (k - 1))) s ↔ SatBy U P (part_at c k) s

pub operands : (U : ℕ → ℕ → Type 0) (P : List Statement) (t : List ℕ) (c : Condition) (k w : ℕ) (q : Condition) → part_at c k ≡ q → Tells t c k w q → (code_in w ≡ 0 → ⊥) → Operands U P c k w
unfolding SatBy
operands U P t c k w (atom a) e h n = absurd (n h.0)
operands U P t c k w (unary o p) e h n =
    let b = unary-code o in
    let l : left_of w k ≡ k - 1 = rw (lt-ltb (code_in w) 14 (omega arith)) in
    record {
      operation = one o;
      coded = sym h.0;
      inside = omega arith;
      sat = λ s. rw (l, e, h.2) (iff-of (unary-rule P o (SatBy U P p) s));
    }
operands U P t c k w (binary o p q) e h n =
    let b = binary-code o in
    let l : left_of w k ≡ left_in w = rw (le-ltb (code_in w) 14 (omega arith)) in
    record {
      operation = two o;
      coded = sym h.0;
      inside = omega arith;
      sat = λ s. rw (l, e, h.2, h.3) (iff-of (binary-rule P o (SatBy U P p) (SatBy U P q) s));
    }
