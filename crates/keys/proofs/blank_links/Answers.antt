-- `blank_links` meets its contract. Assumes nothing.
use Rattle.bits.proofs.Rows.{zeros}
use Rattle.sharing.specs.Sharing.{most_tables}
use Rattle.keys.proofs.blank_links.Goals as goal

pub returns : goal.returns
returns c = zeros most_tables
