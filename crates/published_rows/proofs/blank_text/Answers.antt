-- `blank_text` meets its contract. Assumes nothing.
use Rattle.bits.proofs.Rows.{zeros}
use Rattle.published.specs.Published.{published_room}
use Rattle.published_rows.proofs.blank_text.Goals as goal

pub returns : goal.returns
returns c = zeros published_room
