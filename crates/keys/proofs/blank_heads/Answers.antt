-- `blank_heads` meets its contract. Assumes nothing.
use Rattle.bits.proofs.Rows.{zeros}
use Rattle.keys.specs.Store.{lists}
use Rattle.keys.proofs.blank_heads.Goals as goal

pub returns : goal.returns
returns c = zeros lists
