-- `number` meets its contract: the spaces, then the digits. Assumes nothing.
use native.Mathlib.Omega.{arith}
use Rattle.desk.proofs.Lengths.{wide-length, number_put, number-room}
use Rattle.desk.proofs.columns.number.Goals as goal

pub spaces-k-requires : goal.spaces-k-requires
spaces-k-requires c = omega (arith, wide-length c.args.w c.args.n, c.gap.ensures, c.digit_count.ensures, c.requires)

pub number-requires : goal.number-requires
number-requires c = number-room c.args.w c.args.n c.spaces-k.ensures c.gap.ensures c.digit_count.ensures c.requires

pub returns : goal.returns
returns c = number_put c.args.w c.args.n c.spaces-k.ensures c.gap.ensures c.digit_count.ensures c.number.ensures
