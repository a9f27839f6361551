-- `bits::insert` meets its contract: the bit that is shifted into place fits, and `insert-member` is the rest.
-- Assumes nothing.
use Prim.Native.Nat.{◌%◌}
use native.Mathlib.Omega.{arith}
use lib.Dec.{lit<}
use lib.Pow.{shl_exact}
use Rattle.bits.proofs.Rows.{insert-member}
use Rattle.bits.proofs.insert.Goals as goal

pub returns : goal.returns
returns c = λ j.
    rw (shl_exact {a = 1} 1 (c.args.i % 64) 64 (lit< tt) (omega arith)) (insert-member c.args.row.now c.args.i j (omega arith))
