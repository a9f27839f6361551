-- How long what is spelled is, and how long it can be. Assumes nothing.
use mathlib.Core.Path.{◌≡◌, refl, ap, sym, ◌∙◌}
use mathlib.Core.List.{List, [], ◌∷◌, ◌++◌}
use mathlib.Core.Bool.{Bool, true, false}
use Prim.Native.Nat.{ℕ, zero, suc, ◌+◌, ◌-◌, ◌*◌, ◌/◌, ◌%◌, ◌^◌, ◌≤◌, ◌<◌}
use native.Mathlib.Omega.{arith}
use lib.Dec.{ltb}
use lib.ListN.{length, length-append}
use borrow.Author.Tests.{ltb-true, ltb-false, lt-ltb, le-ltb}
use Rattle.language.specs.declared.Operand.{Operand}
use Rattle.language.specs.declared.Operand.TheVariants.{Variable, Constant}
use Rattle.language.specs.declared.Operator.{Operator}
use Rattle.language.specs.declared.Expression.{Expression}
use Rattle.language.specs.declared.Expression.TheVariants.{Single, Binary}
use Rattle.language.specs.declared.Statement.{Statement}
use Rattle.language.specs.declared.Statement.TheVariants.{Read, Write, Assign, Branch, Skip}
use Rattle.language.specs.Spelling.{largest, digits, signed_digits, spell_constant, spell_variable, spell_operand, spell_expression, spell, ValidVariable, ValidOperand, ValidExpression, Valid}
use Rattle.language.specs.Room.{number_digits, variable_digits, target_digits, variable_room, constant_room, operand_room, expression_room, statement_room}
use Rattle.language.proofs.Digits.{digits-small, digits-next}

-- a number below 10 ^ d has at most d digits
pub digits-length : (d n : ℕ) → 0 < d → n < 10 ^ d → length (digits n) ≤ d
digits-length zero n p h = absurd (omega arith)
digits-length (suc zero) n p h = omega (arith, ap length (digits-small n h))
digits-length (suc (suc k)) n p h = go (ltb n 10) refl (digits-length (suc k) (n / 10))
  where
    go : (b : Bool) → ltb n 10 ≡ b → (0 < suc k → n / 10 < 10 ^ suc k → length (digits (n / 10)) ≤ suc k) → length (digits n) ≤ suc (suc k)
    go true e ih = omega (arith, ap length (digits-small n (ltb-true n 10 e)))
    go false e ih = omega (arith, ap length (digits-next n (ltb-false n 10 e)), length-append (digits (n / 10)) ((48 + n % 10) ∷ []), ih (omega arith) (omega arith))

-- a number of 32 bits
pub number-most : (n : ℕ) → n < 2 ^ 32 → length (digits n) ≤ number_digits
number-most n h = digits-length number_digits n (omega arith) (omega arith)

-- a constant has at most as many digits, and a sign
pub constant-most : (n : ℕ) → length (spell_constant n) ≤ constant_room
unfolding signed_digits
constant-most n = go (ltb n (2 ^ 31)) refl
  where
    go : (b : Bool) → ltb n (2 ^ 31) ≡ b → length (spell_constant n) ≤ constant_room
    go true e = let h = ltb-true n (2 ^ 31) e in rw (lt-ltb n (2 ^ 31) h) (omega (arith, number-most n (omega arith)))
    go false e = let h = ltb-false n (2 ^ 31) e in rw (le-ltb n (2 ^ 31) h) (omega (arith, number-most (suc (2 ^ 32 - suc n)) (omega arith)))

-- how long a text is, from its parts
pub variable-length : (x : ℕ) → length (spell_variable x) ≡ 1 + length (digits x)
unfolding spell_variable
variable-length x = omega arith

pub binary-length : (a : Operand) (o : Operator) (b : Operand) → length (spell_expression (Binary a o b)) ≡ length (spell_operand a) + (3 + length (spell_operand b))
unfolding spell_expression
binary-length a o b = simp length-append (omega arith)

pub assign-length : (x : ℕ) (e : Expression) → length (spell (Assign x e)) ≡ length (spell_variable x) + (4 + length (spell_expression e))
unfolding spell
assign-length x e = simp length-append (omega arith)

pub branch-length : (x n m : ℕ) → length (spell (Branch x n m)) ≡ 3 + (length (spell_variable x) + (6 + (length (digits n) + (6 + length (digits m)))))
unfolding spell
branch-length x n m = simp length-append (omega arith)

-- how long it can be
pub variable-most : (x : ℕ) → ValidVariable x → length (spell_variable x) ≤ variable_room
variable-most x h = omega (arith, variable-length x, digits-length variable_digits x (omega arith) (omega arith))

pub operand-most : (a : Operand) → ValidOperand a → length (spell_operand a) ≤ operand_room
unfolding spell_operand
operand-most (Variable x) v = omega (arith, variable-most x v)
operand-most (Constant n) v = constant-most n

pub expression-most : (e : Expression) → ValidExpression e → length (spell_expression e) ≤ expression_room
unfolding spell_expression
expression-most (Single a) v = omega (arith, operand-most a v)
expression-most (Binary a o b) v = omega (arith, binary-length a o b, operand-most a v.0, operand-most b v.1)

-- a branch's targets have few digits
abbrev pub Near : Statement → Type 0
Near (Read x) = Unit
Near (Write x) = Unit
Near (Assign x e) = Unit
Near (Branch x n m) = (n < 10 ^ target_digits) × (m < 10 ^ target_digits)
Near Skip = Unit

pub statement-most : (s : Statement) → Valid s → Near s → length (spell s) ≤ statement_room
unfolding spell
statement-most (Read x) v n = omega (arith, variable-most x v)
statement-most (Write x) v n = omega (arith, variable-most x v)
statement-most (Assign x e) v n = omega (arith, assign-length x e, variable-most x v.0, expression-most e v.1)
statement-most (Branch x a b) v n =
    omega (arith, branch-length x a b, variable-most x v.0, digits-length target_digits a (omega arith) n.0, digits-length target_digits b (omega arith) n.1)
statement-most Skip v n = omega arith
