-- What an entry of an operator's kind asks and does. Assumes nothing.
use mathlib.Core.Path.{◌≡◌}
use mathlib.Core.List.{List}
use Prim.Native.Nat.{ℕ, ◌-◌, ◌/◌, ◌%◌, ◌<◌}
use native.Mathlib.Omega.{arith}
use Rattle.language.specs.Spelling.{variables, ValidOperand, Valid}
use Rattle.language.specs.declared.Operator.{Operator}
use Rattle.language.specs.declared.Expression.TheVariants.{Binary}
use Rattle.program.specs.Program.{most}
use Rattle.machine.specs.Machine.{State, value, stored, perform}
use Rattle.encoding.specs.declared.Entry.{Entry}
use Rattle.encoding.specs.Encoding.{operator_in, statement_in, left_in, right_in}
use Rattle.encoding.proofs.Entries.{binary-entry}

module _ (e : Entry) (high : 4 < e.head % 16) where
  -- its variable and its operands lie in range
  pub in-range : {at : ℕ} → Valid (statement_in e) → at < most → (e.head / 64 % 256 < variables) × (at < most) × ValidOperand (left_in e) × ValidOperand (right_in e)
  in-range v h = let w = rw (binary-entry e high) at v in (w.0, h, w.1.0, w.1.1)

  -- and its statement does what the operator gives
  pub performed : (o : Operator) → operator_in (e.head % 16 - 5) ≡ o → {st : State} (input at : ℕ) (vs : List ℕ)
      → st ≡ stored (value vs (Binary (left_in e) o (right_in e))) (e.head / 64 % 256) at vs → st ≡ perform (statement_in e) input at vs
  performed o is input at vs h = rw (binary-entry e high, is) h
