-- What entries hold, by their kinds. Assumes nothing.
use mathlib.Core.Path.{◌≡◌, refl}
use mathlib.Core.Bool.{Bool}
use Prim.Native.Nat.{ℕ, zero, suc, ◌-◌, ◌/◌, ◌%◌, ◌<◌}
use native.Mathlib.Omega.{arith}
use lib.Dec.{eqb}
use Rattle.language.specs.declared.Operator.TheVariants.{Divide}
use Rattle.language.specs.declared.Expression.TheVariants.{Binary}
use Rattle.language.specs.declared.Statement.TheVariants.{Assign}
use Rattle.encoding.specs.declared.Entry.{Entry}
use Rattle.encoding.specs.Encoding.{Packed, operand_in, operator_in, statement_by, statement_in, left_in, right_in}

-- the last operator has all further kinds
pub operator-high : (m : ℕ) → 4 < m → operator_in m ≡ Divide
operator-high zero h = absurd (omega arith)
operator-high (suc zero) h = absurd (omega arith)
operator-high (suc (suc zero)) h = absurd (omega arith)
operator-high (suc (suc (suc zero))) h = absurd (omega arith)
operator-high (suc (suc (suc (suc zero)))) h = absurd (omega arith)
operator-high (suc (suc (suc (suc (suc k))))) h = refl

pub kind-high : (k x : ℕ) (a b : Bool) (m n : ℕ) → 4 < k → statement_by k x a b m n ≡ Assign x (Binary (operand_in a m) (operator_in (k - 5)) (operand_in b n))
kind-high zero x a b m n h = absurd (omega arith)
kind-high (suc zero) x a b m n h = absurd (omega arith)
kind-high (suc (suc zero)) x a b m n h = absurd (omega arith)
kind-high (suc (suc (suc zero))) x a b m n h = absurd (omega arith)
kind-high (suc (suc (suc (suc zero)))) x a b m n h = absurd (omega arith)
kind-high (suc (suc (suc (suc (suc k))))) x a b m n h = let e : suc (suc (suc (suc (suc k)))) - 5 ≡ k = omega arith in rw e

-- an entry with these parts in its head holds the statement by them
pub packed-statement : (e : Entry) {k : ℕ} {a b : Bool} {x : ℕ} → Packed e.head k a b x → statement_in e ≡ statement_by k x a b e.first e.second
unfolding statement_in
packed-statement e p = rw (p.kind_part, p.variable_part, p.first_part, p.second_part)

-- what an entry holds, where its kind is an operator's
pub binary-entry : (e : Entry) → 4 < e.head % 16 → statement_in e ≡ Assign (e.head / 64 % 256) (Binary (left_in e) (operator_in (e.head % 16 - 5)) (right_in e))
unfolding statement_in
binary-entry e h = kind-high (e.head % 16) (e.head / 64 % 256) (eqb (e.head / 16 % 2) 1) (eqb (e.head / 32 % 2) 1) e.first e.second h
