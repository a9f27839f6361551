-- `line_at` meets its contract. Assumes nothing.
use native.Mathlib.Omega.{arith}
use Rattle.line_number.proofs.line_at.Goals as goal

pub returns-then-s-lt-MOST_LINE : goal.returns-then-s-lt-MOST_LINE
returns-then-s-lt-MOST_LINE c = omega arith

pub returns-else-s-lt-MOST_LINE : goal.returns-else-s-lt-MOST_LINE
returns-else-s-lt-MOST_LINE c = omega arith
