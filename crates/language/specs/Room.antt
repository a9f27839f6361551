-- Room for the longest of what is spelled, in digits and in bytes: proofs/Lengths.antt shows that nothing is longer.
use Rattle.std.specs.Prelude.{ℕ, ◌+◌}

-- a number of 32 bits, and so a statement's number or a constant without its sign: `4294967295`
abbrev pub number_digits : ℕ
number_digits = 10

-- a variable's number: `63`
abbrev pub variable_digits : ℕ
variable_digits = 2

-- a branch whose targets have this many digits is no longer than the longest assignment
abbrev pub target_digits : ℕ
target_digits = 6

-- `i63`, `-2147483648`, `-2147483648 + -2147483648`, `i63 := -2147483648 + -2147483648`
abbrev pub variable_room : ℕ
variable_room = 1 + variable_digits

abbrev pub constant_room : ℕ
constant_room = 1 + number_digits

abbrev pub operand_room : ℕ
operand_room = constant_room

abbrev pub expression_room : ℕ
expression_room = operand_room + (3 + operand_room)

abbrev pub statement_room : ℕ
statement_room = variable_room + (4 + expression_room)
