-- A proof device: statements as numbers, so that two are compared. proofs/Codes.antt takes a statement back from its code.
use Rattle.std.specs.Prelude.{List, [], ◌∷◌, ℕ, ◌+◌, ◌*◌}
use Rattle.language.specs.declared.Operand.{Operand}
use Rattle.language.specs.declared.Operand.TheVariants.{Variable, Constant}
use Rattle.language.specs.declared.Operator.{Operator}
use Rattle.language.specs.declared.Operator.TheVariants.{Add, Subtract, Multiply, Less, Equal, Divide}
use Rattle.language.specs.declared.Expression.{Expression}
use Rattle.language.specs.declared.Expression.TheVariants.{Single, Binary}
use Rattle.language.specs.declared.Statement.{Statement}
use Rattle.language.specs.declared.Statement.TheVariants.{Read, Write, Assign, Branch, Skip}
use Rattle.codes.specs.declared.Code.{Code}

abbrev pub operand_code : Operand → ℕ
operand_code (Variable x) = 2 * x
operand_code (Constant n) = 2 * n + 1

-- from 5 on, after the kinds of statements
abbrev pub operator_code : Operator → ℕ
operator_code Add = 5
operator_code Subtract = 6
operator_code Multiply = 7
operator_code Less = 8
operator_code Equal = 9
operator_code Divide = 10

abbrev pub assign_code : ℕ → Expression → Code
assign_code x (Single a) = record { kind = 4; first = x; second = operand_code a; third = 0 }
assign_code x (Binary a o b) = record { kind = operator_code o; first = x; second = operand_code a; third = operand_code b }

abbrev pub statement_code : Statement → Code
statement_code (Read x) = record { kind = 0; first = x; second = 0; third = 0 }
statement_code (Write x) = record { kind = 1; first = x; second = 0; third = 0 }
statement_code Skip = record { kind = 2; first = 0; second = 0; third = 0 }
statement_code (Branch x n m) = record { kind = 3; first = x; second = n; third = m }
statement_code (Assign x e) = assign_code x e

-- the numbers of a code, the code's CODE_WORDS
abbrev pub code_word_count : ℕ
code_word_count = 4

abbrev pub code_words : Code → List ℕ
code_words c = c.kind ∷ c.first ∷ c.second ∷ c.third ∷ []
