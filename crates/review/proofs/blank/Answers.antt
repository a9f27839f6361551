-- `blank` meets its contract. Assumes nothing.
use Rattle.bits.proofs.Rows.{zeros}
use Rattle.sharing.specs.Sharing.{most_lines}
use Rattle.review.proofs.blank.Goals as goal

pub returns : goal.returns
returns c = zeros most_lines
