-- What the operators give on values of 32 bits: document 01, "The statement language", and document 02, Wish 5.
use Rattle.std.specs.Prelude.{ℕ, ◌+◌, ◌-◌, ◌*◌, ◌%◌, ◌^◌, Bool, true, false, ◌==◌, int_div, int_lt, Option, None, Some}
use Rattle.std.specs.Int.{w32}
use Rattle.std.proofs.Common.{to_z, of_z}
use Rattle.language.specs.declared.Operator.{Operator}
use Rattle.language.specs.declared.Operator.TheVariants.{Add, Subtract, Multiply, Less, Equal, Divide}

abbrev pub bit : Bool → ℕ
bit true = 1
bit false = 0

-- "`+`, `-` and `*` keep the low 32 bits. `<` compares as signed two's complement, `=` as bits; both give 1 or 0."; document 02: "`A / A` ..: signed,
-- rounded toward zero, -2147483648 / -1 giving -2147483648", the low 32 bits of that quotient
abbrev pub apply : Operator → ℕ → ℕ → ℕ
apply Add a b = (a + b) % 2 ^ 32
apply Subtract a b = (a + (2 ^ 32 - b)) % 2 ^ 32
apply Multiply a b = a * b % 2 ^ 32
apply Less a b = bit (int_lt (to_z w32 a) (to_z w32 b))
apply Equal a b = bit (a == b)
apply Divide a b = of_z w32 (int_div (to_z w32 a) (to_z w32 b))

-- "A zero divisor ends the run with 'fault'": whether the operator faults, by its right operand's value
abbrev pub faults : Operator → ℕ → Bool
faults Add b = false
faults Subtract b = false
faults Multiply b = false
faults Less b = false
faults Equal b = false
faults Divide b = b == 0

-- what an expression gives: a value, or none by a fault
abbrev pub given : Bool → ℕ → Option ℕ
given true v = None
given false v = Some v
