-- `ended` meets its contract, which is that of `word`. Assumes nothing.
use native.Mathlib.Omega.{arith}
use Rattle.marks.proofs.read.ended.Goals as goal

pub returns : goal.returns
returns c = record { result_value = c.word.ensures.result_value; result_in_bounds = c.word.ensures.result_in_bounds (omega arith) }
