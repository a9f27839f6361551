-- `bits::contains` meets its contract: the last bit of the shifted word is the bit.
-- Assumes nothing.
use mathlib.Core.Path.{ap}
use Prim.Native.Nat.{ℕ, ◌/◌, ◌%◌, ◌^◌}
use lib.Dec.{eqb}
use lib.ListN.{get_or}
use lib.Bits.{and_mask}
use Rattle.bits.specs.Row.{member}
use Rattle.bits.proofs.contains.Goals as goal

pub returns : goal.returns
unfolding member
returns c = ap (λ (z : ℕ). eqb z 1) (and_mask (get_or c.args.row.now (c.args.i / 64) 0 / 2 ^ (c.args.i % 64)) 1)
