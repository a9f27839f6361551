-- What three numbers, an entry, stand for as a statement: the kind in the head's lowest four bits, a bit for each operand that is a constant, then the
-- variable; behind the head the operands, or a branch's targets. Equal statements may be held in several ways.
use Rattle.std.specs.Prelude.{◌≡◌, Bool, true, false, ℕ, zero, suc, ◌/◌, ◌%◌, eqb}
use Rattle.language.specs.declared.Operand.{Operand}
use Rattle.language.specs.declared.Operand.TheVariants.{Variable, Constant}
use Rattle.language.specs.declared.Operator.{Operator}
use Rattle.language.specs.declared.Operator.TheVariants.{Add, Subtract, Multiply, Less, Equal, Divide}
use Rattle.language.specs.declared.Expression.TheVariants.{Single, Binary}
use Rattle.language.specs.declared.Statement.{Statement}
use Rattle.language.specs.declared.Statement.TheVariants.{Read, Write, Assign, Branch, Skip}
use Rattle.encoding.specs.declared.Entry.{Entry}

abbrev pub is_constant : Operand → Bool
is_constant (Variable x) = false
is_constant (Constant n) = true

abbrev pub operand_in : Bool → ℕ → Operand
operand_in false w = Variable (w % 256)
operand_in true w = Constant w

-- by its kind, less 5 for the kinds of other statements
abbrev pub operator_in : ℕ → Operator
operator_in zero = Add
operator_in (suc zero) = Subtract
operator_in (suc (suc zero)) = Multiply
operator_in (suc (suc (suc zero))) = Less
operator_in (suc (suc (suc (suc zero)))) = Equal
operator_in (suc (suc (suc (suc (suc k))))) = Divide

-- by the kind, the variable, the numbers behind it and whether they are constants
abbrev pub statement_by : ℕ → ℕ → Bool → Bool → ℕ → ℕ → Statement
statement_by zero x a b m n = Read x
statement_by (suc zero) x a b m n = Write x
statement_by (suc (suc zero)) x a b m n = Skip
statement_by (suc (suc (suc zero))) x a b m n = Branch x m n
statement_by (suc (suc (suc (suc zero)))) x a b m n = Assign x (Single (operand_in a m))
statement_by (suc (suc (suc (suc (suc k))))) x a b m n = Assign x (Binary (operand_in a m) (operator_in k) (operand_in b n))

-- the statement that an entry holds
unfoldable pub statement_in : Entry → Statement
statement_in e = statement_by (e.head % 16) (e.head / 64 % 256) (eqb (e.head / 16 % 2) 1) (eqb (e.head / 32 % 2) 1) e.first e.second

-- proof devices: its operands, where its kind has them
abbrev pub left_in : Entry → Operand
left_in e = operand_in (eqb (e.head / 16 % 2) 1) e.first

abbrev pub right_in : Entry → Operand
right_in e = operand_in (eqb (e.head / 32 % 2) 1) e.second

-- a proof device: a head has these parts
pub record Packed (head kind : ℕ) (a b : Bool) (x : ℕ) : Type 0 where
  pub kind_part : head % 16 ≡ kind
  pub variable_part : head / 64 % 256 ≡ x
  pub first_part : eqb (head / 16 % 2) 1 ≡ a
  pub second_part : eqb (head / 32 % 2) 1 ≡ b
