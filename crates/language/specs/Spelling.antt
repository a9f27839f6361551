-- How statements are spelled, and which are valid: document 01, "The statement language", with document 02's constants below zero.
use Rattle.std.specs.Prelude.{ℕ, zero, suc, ◌+◌, ◌/◌, ◌%◌, ◌^◌, ◌≤◌, ◌<◌, List, [], ◌∷◌, ◌++◌, ltb, ℤ, pos, negsuc, nat_abs}
use Rattle.std.specs.Int.{w32}
use Rattle.std.proofs.Common.{to_z}
use Rattle.base.specs.Bytes.{byte, bytes}
use Rattle.base.specs.Pick.{pick}
use Rattle.language.specs.declared.Operand.{Operand}
use Rattle.language.specs.declared.Operand.TheVariants.{Variable, Constant}
use Rattle.language.specs.declared.Operator.{Operator}
use Rattle.language.specs.declared.Operator.TheVariants.{Add, Subtract, Multiply, Less, Equal, Divide}
use Rattle.language.specs.declared.Expression.{Expression}
use Rattle.language.specs.declared.Expression.TheVariants.{Single, Binary}
use Rattle.language.specs.declared.Statement.{Statement}
use Rattle.language.specs.declared.Statement.TheVariants.{Read, Write, Assign, Branch, Skip}

-- "X is a variable `i0` to `i31`" of document 01, "variables up to `i63`" of document 02
abbrev pub variables : ℕ
variables = 64

-- "statement numbers are decimal, 0 to 2147483647"
abbrev pub largest : ℕ
largest = 2147483647

-- the decimal digits of n, by at most `fuel` divisions
unfoldable pub digits_by : ℕ → ℕ → List ℕ
digits_by zero n = []
digits_by (suc fuel) n =
    let more : List ℕ = digits_by fuel (n / 10) ++ (byte "0" + n % 10) ∷ [] in
    pick (ltb n 10) ((byte "0" + n) ∷ []) more

-- "decimal, .. without leading zeros (`0` itself is right)"
unfoldable pub digits : ℕ → List ℕ
digits n = digits_by (suc n) n

-- a whole number in decimal, with `-` before the digits of one below zero
abbrev pub sign_mark : ℤ → List ℕ
sign_mark (pos n) = []
sign_mark (negsuc n) = bytes "-"

unfoldable pub signed_digits : ℤ → List ℕ
signed_digits v = sign_mark v ++ digits (nat_abs v)

-- "Constants shall reach from -2147483648 to 2147483647, as `-40`" (document 02): a constant is its 32 bits, and spelled as the number that
-- they stand for
abbrev pub spell_constant : ℕ → List ℕ
spell_constant n = signed_digits (to_z w32 n)

abbrev pub ValidConstant : ℕ → Type 0
ValidConstant n = n < 2 ^ 32

abbrev pub spell_statement_number : ℕ → List ℕ
spell_statement_number n = digits n

abbrev pub ValidStatementNumber : ℕ → Type 0
ValidStatementNumber n = n ≤ largest

unfoldable pub spell_variable : ℕ → List ℕ
spell_variable x = byte "i" ∷ digits x

abbrev pub ValidVariable : ℕ → Type 0
ValidVariable x = x < variables

-- "A is a variable or a constant"
unfoldable pub spell_operand : Operand → List ℕ
spell_operand (Variable x) = spell_variable x
spell_operand (Constant n) = spell_constant n

abbrev pub ValidOperand : Operand → Type 0
ValidOperand (Variable x) = ValidVariable x
ValidOperand (Constant n) = ValidConstant n

-- "o is `+`, `-`, `*`, `<` or `=`"; document 02: "`A / A` joins the operators"
abbrev pub spell_operator : Operator → ℕ
spell_operator Add = byte "+"
spell_operator Subtract = byte "-"
spell_operator Multiply = byte "*"
spell_operator Less = byte "<"
spell_operator Equal = byte "="
spell_operator Divide = byte "/"

-- "E is `A` or `A o A`"
unfoldable pub spell_expression : Expression → List ℕ
spell_expression (Single a) = spell_operand a
spell_expression (Binary a o b) = spell_operand a ++ byte " " ∷ spell_operator o ∷ byte " " ∷ spell_operand b

abbrev pub ValidExpression : Expression → Type 0
ValidExpression (Single a) = ValidOperand a
ValidExpression (Binary a o b) = ValidOperand a × ValidOperand b

abbrev pub read_word : List ℕ
read_word = bytes "read "

abbrev pub write_word : List ℕ
write_word = bytes "write "

abbrev pub becomes_word : List ℕ
becomes_word = bytes " := "

abbrev pub if_word : List ℕ
if_word = bytes "if "

abbrev pub goto_word : List ℕ
goto_word = bytes " goto "

abbrev pub else_word : List ℕ
else_word = bytes " else "

abbrev pub skip_word : List ℕ
skip_word = bytes "skip"

-- `read X`, `write X`, `X := E`, `if X goto n else m`, `skip`: a statement's line without its byte 10
unfoldable pub spell : Statement → List ℕ
spell (Read x) = read_word ++ spell_variable x
spell (Write x) = write_word ++ spell_variable x
spell (Assign x e) = spell_variable x ++ (becomes_word ++ spell_expression e)
spell (Branch x n m) =
    if_word ++ (spell_variable x ++ (goto_word ++ (spell_statement_number n ++ (else_word ++ spell_statement_number m))))
spell Skip = skip_word

-- what it names lies in its range, wherever it stands
abbrev pub Valid : Statement → Type 0
Valid (Read x) = ValidVariable x
Valid (Write x) = ValidVariable x
Valid (Assign x e) = ValidVariable x × ValidExpression e
Valid (Branch x n m) = ValidVariable x × ValidStatementNumber n × ValidStatementNumber m
Valid Skip = Unit
