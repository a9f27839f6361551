-- The operators by their codes, and what their rules say. Assumes nothing.
use mathlib.Core.Path.{◌≡◌, refl, ap, sym, ◌∙◌}
use mathlib.Core.List.{List, [], ◌∷◌}
use Prim.Native.Nat.{ℕ}
use lib.ListN.{get_or}
use Rattle.language.specs.declared.Statement.{Statement}
use Rattle.ctl.specs.Paths.{E, A, forward, backward}
use Rattle.flow.specs.Flow.{steps}
use Rattle.condition.specs.Condition.{next, finally, globally, until, weak, Unary, negation, Binary, conjunction, disjunction}
use Rattle.truth.specs.Truth.{SatUnary, SatBinary}
use Rattle.table.specs.Rules.{Operation, one, two, code_of, rule_of, SatRule}

-- the operator of each code; 0 is none's
operations : List Operation
operations =
    one negation
    ∷ one negation
    ∷ one (Unary.path E forward next)
    ∷ one (Unary.path A forward next)
    ∷ one (Unary.path E forward finally)
    ∷ one (Unary.path A forward finally)
    ∷ one (Unary.path E forward globally)
    ∷ one (Unary.path A forward globally)
    ∷ one (Unary.path E backward next)
    ∷ one (Unary.path A backward next)
    ∷ one (Unary.path E backward finally)
    ∷ one (Unary.path A backward finally)
    ∷ one (Unary.path E backward globally)
    ∷ one (Unary.path A backward globally)
    ∷ two conjunction
    ∷ two disjunction
    ∷ two (Binary.path E forward until)
    ∷ two (Binary.path A forward until)
    ∷ two (Binary.path E forward weak)
    ∷ two (Binary.path A forward weak)
    ∷ two (Binary.path E backward until)
    ∷ two (Binary.path A backward until)
    ∷ two (Binary.path E backward weak)
    ∷ two (Binary.path A backward weak)
    ∷ []

unfoldable pub operation_of : ℕ → Operation
unfolding operations
operation_of code = get_or operations code (one negation)

pub operation-back : (x : Operation) → operation_of (code_of x) ≡ x
unfolding operation_of operations
operation-back (one negation) = refl
operation-back (one (Unary.path E forward next)) = refl
operation-back (one (Unary.path A forward next)) = refl
operation-back (one (Unary.path E forward finally)) = refl
operation-back (one (Unary.path A forward finally)) = refl
operation-back (one (Unary.path E forward globally)) = refl
operation-back (one (Unary.path A forward globally)) = refl
operation-back (one (Unary.path E backward next)) = refl
operation-back (one (Unary.path A backward next)) = refl
operation-back (one (Unary.path E backward finally)) = refl
operation-back (one (Unary.path A backward finally)) = refl
operation-back (one (Unary.path E backward globally)) = refl
operation-back (one (Unary.path A backward globally)) = refl
operation-back (two conjunction) = refl
operation-back (two disjunction) = refl
operation-back (two (Binary.path E forward until)) = refl
operation-back (two (Binary.path A forward until)) = refl
operation-back (two (Binary.path E forward weak)) = refl
operation-back (two (Binary.path A forward weak)) = refl
operation-back (two (Binary.path E backward until)) = refl
operation-back (two (Binary.path A backward until)) = refl
operation-back (two (Binary.path E backward weak)) = refl
operation-back (two (Binary.path A backward weak)) = refl

-- the rule of the operator whose code this is
pub rule-of-code : (code k : ℕ) → code ≡ k → (x : Operation) → code_of x ≡ code → rule_of (operation_of k) ≡ rule_of x
rule-of-code code k e x f = ap rule_of (ap operation_of (sym (f ∙ e)) ∙ operation-back x)

-- a rule says what its operator says
pub unary-rule : (P : List Statement) (o : Unary) (X : ℕ → Type 0) (s : ℕ) → SatRule (steps P) (rule_of (one o)) X X s ≡ SatUnary P o X s
unary-rule P negation X s = refl
unary-rule P (Unary.path E forward next) X s = refl
unary-rule P (Unary.path A forward next) X s = refl
unary-rule P (Unary.path E forward finally) X s = refl
unary-rule P (Unary.path A forward finally) X s = refl
unary-rule P (Unary.path E forward globally) X s = refl
unary-rule P (Unary.path A forward globally) X s = refl
unary-rule P (Unary.path E backward next) X s = refl
unary-rule P (Unary.path A backward next) X s = refl
unary-rule P (Unary.path E backward finally) X s = refl
unary-rule P (Unary.path A backward finally) X s = refl
unary-rule P (Unary.path E backward globally) X s = refl
unary-rule P (Unary.path A backward globally) X s = refl

pub binary-rule : (P : List Statement) (o : Binary) (X Y : ℕ → Type 0) (s : ℕ) → SatRule (steps P) (rule_of (two o)) X Y s ≡ SatBinary P o X Y s
binary-rule P conjunction X Y s = refl
binary-rule P disjunction X Y s = refl
binary-rule P (Binary.path E forward until) X Y s = refl
binary-rule P (Binary.path A forward until) X Y s = refl
binary-rule P (Binary.path E forward weak) X Y s = refl
binary-rule P (Binary.path A forward weak) X Y s = refl
binary-rule P (Binary.path E backward until) X Y s = refl
binary-rule P (Binary.path A backward until) X Y s = refl
binary-rule P (Binary.path E backward weak) X Y s = refl
binary-rule P (Binary.path A backward weak) X Y s = refl
