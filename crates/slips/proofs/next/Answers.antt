-- `next` meets its contract. Assumes nothing.
use Rattle.slips.proofs.Steps.{digit_low}
use native.Mathlib.Omega.{arith}
use Rattle.slips.proofs.next.Goals as goal

pub overflow_sub-n : goal.overflow_sub-n
overflow_sub-n c = omega (arith, digit_low c.args.c c.requires.c_value)
