-- A statement is taken back from its code, so equal codes are those of equal statements. Assumes nothing.
use mathlib.Core.Path.{◌≡◌, refl, ap, sym, ◌∙◌}
use mathlib.Core.Bool.{Bool, true, false}
use Prim.Native.Nat.{ℕ, zero, suc, ◌+◌, ◌*◌, ◌/◌, ◌%◌}
use native.Mathlib.Omega.{arith}
use lib.Dec.{eqb}
use borrow.Author.Tests.{ne_eqb}
use Rattle.language.specs.declared.Operand.{Operand}
use Rattle.language.specs.declared.Operand.TheVariants.{Variable, Constant}
use Rattle.language.specs.declared.Operator.{Operator}
use Rattle.language.specs.declared.Operator.TheVariants.{Add, Subtract, Multiply, Less, Equal, Divide}
use Rattle.language.specs.declared.Expression.TheVariants.{Single, Binary}
use Rattle.language.specs.declared.Statement.{Statement}
use Rattle.language.specs.declared.Statement.TheVariants.{Read, Write, Assign, Branch, Skip}
use Rattle.codes.specs.Codes.{operand_code, assign_code, statement_code}
use Rattle.codes.specs.declared.Code.{Code}

abbrev operand_by : Bool → ℕ → Operand
operand_by true n = Constant n
operand_by false n = Variable n

abbrev operand_of : ℕ → Operand
operand_of c = operand_by (eqb (c % 2) 1) (c / 2)

operand-back : (a : Operand) → operand_of (operand_code a) ≡ a
operand-back (Variable x) =
    let d : 2 * x / 2 ≡ x = omega arith in
    let m : 2 * x % 2 ≡ 1 → ⊥ = λ h. omega arith in
    rw (ne_eqb (2 * x % 2) 1 m, d)
operand-back (Constant n) =
    let d : (2 * n + 1) / 2 ≡ n = omega arith in
    let m : (2 * n + 1) % 2 ≡ 1 = omega arith in
    rw (m, d)

-- by the kind: 5 and more are the operators
abbrev statement_by : ℕ → ℕ → ℕ → ℕ → Statement
statement_by zero x a b = Read x
statement_by (suc zero) x a b = Write x
statement_by (suc (suc zero)) x a b = Skip
statement_by (suc (suc (suc zero))) x a b = Branch x a b
statement_by (suc (suc (suc (suc zero)))) x a b = Assign x (Single (operand_of a))
statement_by (suc (suc (suc (suc (suc zero))))) x a b = Assign x (Binary (operand_of a) Add (operand_of b))
statement_by (suc (suc (suc (suc (suc (suc zero)))))) x a b = Assign x (Binary (operand_of a) Subtract (operand_of b))
statement_by (suc (suc (suc (suc (suc (suc (suc zero))))))) x a b = Assign x (Binary (operand_of a) Multiply (operand_of b))
statement_by (suc (suc (suc (suc (suc (suc (suc (suc zero)))))))) x a b = Assign x (Binary (operand_of a) Less (operand_of b))
statement_by (suc (suc (suc (suc (suc (suc (suc (suc (suc zero))))))))) x a b = Assign x (Binary (operand_of a) Equal (operand_of b))
statement_by (suc (suc (suc (suc (suc (suc (suc (suc (suc (suc k)))))))))) x a b = Assign x (Binary (operand_of a) Divide (operand_of b))

abbrev statement_of : Code → Statement
statement_of c = statement_by c.kind c.first c.second c.third

binary-back : (x : ℕ) (a : Operand) (o : Operator) (b : Operand) → statement_of (assign_code x (Binary a o b)) ≡ Assign x (Binary a o b)
binary-back x a Add b = rw (operand-back a, operand-back b)
binary-back x a Subtract b = rw (operand-back a, operand-back b)
binary-back x a Multiply b = rw (operand-back a, operand-back b)
binary-back x a Less b = rw (operand-back a, operand-back b)
binary-back x a Equal b = rw (operand-back a, operand-back b)
binary-back x a Divide b = rw (operand-back a, operand-back b)

statement-back : (s : Statement) → statement_of (statement_code s) ≡ s
statement-back (Read x) = refl
statement-back (Write x) = refl
statement-back (Assign x (Single a)) = rw (operand-back a)
statement-back (Assign x (Binary a o b)) = binary-back x a o b
statement-back (Branch x n m) = refl
statement-back Skip = refl

pub code-unique : (s t : Statement) → statement_code s ≡ statement_code t → s ≡ t
code-unique s t e = sym (statement-back s) ∙ ap statement_of e ∙ statement-back t
