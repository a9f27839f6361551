-- `digit_count` meets its contract: a number under 10 has one digit, any other one more than its tenth. Assumes nothing.
use mathlib.Core.Path.{ap}
use mathlib.Core.List.{[], ◌∷◌}
use Prim.Native.Nat.{◌+◌, ◌/◌, ◌%◌}
use native.Mathlib.Omega.{arith}
use lib.ListN.{length, length-append}
use Rattle.language.specs.Spelling.{digits}
use Rattle.language.proofs.Digits.{digits-small, digits-next}
use Rattle.language.proofs.Lengths.{number-most}
use Rattle.desk.proofs.columns.+digit_count.Goals as goal

pub overflow_add-result : goal.overflow_add-result
overflow_add-result t c = omega (arith, number-most (c.args.n / 10) (omega arith))

pub returns-then-n-lt10 : goal.returns-then-n-lt10
returns-then-n-lt10 t c = omega (arith, ap length (digits-small c.args.n c.if-n-lt10.true))

pub returns-else-n-lt10 : goal.returns-else-n-lt10
returns-else-n-lt10 t c =
    omega (arith, ap length (digits-next c.args.n c.if-n-lt10.false), length-append (digits (c.args.n / 10)) ((48 + c.args.n % 10) ∷ []))
