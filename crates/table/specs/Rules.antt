-- A proof device: the code's rule for each operator, and what it says of the operands. proofs/ holds it to the truth by paths.
use Rattle.std.specs.Prelude.{◌≡◌, List, Bool, true, false, ◌⊎◌, ℕ, length}
use Rattle.ctl.specs.Paths.{Quant, E, A, Paths, quant, Direction, forward, backward}
use Rattle.graph.specs.Graphs.{step_of, Directions}
use Rattle.flow.specs.FlowOf.{Flow, flow_entries, flow_at}
use Rattle.condition.specs.Condition.{PathUnary, next, finally, globally, PathBinary, until, weak, Unary, negation, Binary, conjunction, disjunction}
use Rattle.condition.specs.Words.{unary_code, binary_code}
use Rattle.labelling.specs.Labels.{Said}
use Rattle.labelling.specs.declared.Operator.{Operator}
use Rattle.labelling.specs.declared.Operator.TheVariants as op
use Rattle.table.specs.declared.Rule.{Rule}
use Rattle.table.specs.declared.Rule.TheVariants as rule

-- an operator of one operand, or of two
pub data Operation : Type 0 where
  one : Unary → Operation
  two : Binary → Operation

abbrev pub code_of : Operation → ℕ
code_of (one o) = unary_code o
code_of (two o) = binary_code o

abbrev pub is_all : Quant → Bool
is_all E = false
is_all A = true

abbrev pub is_back : Direction → Bool
is_back forward = false
is_back backward = true

abbrev pub unary_operator : PathUnary → Operator
unary_operator next = op.Next
unary_operator finally = op.Finally
unary_operator globally = op.Globally

abbrev pub binary_operator : PathBinary → Operator
binary_operator until = op.Until
binary_operator weak = op.Weak

abbrev pub rule_of : Operation → Rule
rule_of (one negation) = rule.Negation
rule_of (one (Unary.path k d o)) = rule.Path (unary_operator o) (is_all k) (is_back d)
rule_of (two conjunction) = rule.Conjunction
rule_of (two disjunction) = rule.Disjunction
rule_of (two (Binary.path k d o)) = rule.Path (binary_operator o) (is_all k) (is_back d)

abbrev pub direction : Bool → Direction
direction true = backward
direction false = forward

-- what a rule says at place s of its operands X and Y, on steps of both directions; a rule of one operand has it as X
abbrev pub SatRule : (Direction → ℕ → ℕ → Bool) → Rule → (ℕ → Type 0) → (ℕ → Type 0) → ℕ → Type 0
SatRule step rule.Negation X Y s = X s → ⊥
SatRule step rule.Conjunction X Y s = X s × Y s
SatRule step rule.Disjunction X Y s = X s ⊎ Y s
SatRule step (rule.Path o all back) X Y s = Paths (quant all) (step (direction back)) s (Said o X Y)
SatRule step rule.Nothing X Y s = ⊥

-- the steps of the first n places that the graphs hold
abbrev pub flow_steps : ℕ → Flow → Direction → ℕ → ℕ → Bool
flow_steps n f forward = step_of n f.forward
flow_steps n f backward = step_of n f.backward

-- both graphs of the lent numbers have n places, and each is the other's opposite
pub record BothWays (n : ℕ) (flow : List ℕ) : Type 0 where
  pub size : length flow ≡ flow_entries
  pub ahead : Directions n (flow_at flow).forward (flow_at flow).backward
  pub behind : Directions n (flow_at flow).backward (flow_at flow).forward
