-- `blank_entries` meets its contract. Assumes nothing.
use Rattle.bits.proofs.Rows.{zeros}
use Rattle.sharing.specs.Sharing.{most_tables}
use Rattle.keys.proofs.blank_entries.Goals as goal

pub returns : goal.returns
returns c = zeros most_tables
