-- `bits::clear` meets its contract: zeros have no bit.
-- Assumes nothing.
use lib.ListN.{length}
use Rattle.bits.proofs.Rows.{zeros, zeros-member}
use Rattle.bits.proofs.clear.Goals as goal

pub returns : goal.returns
returns c = zeros-member {n = length c.args.row.now} (rw (c.fill.ensures.after (λ y e. e)) (zeros _))
