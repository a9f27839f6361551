-- `blank_memory` meets its contract. Assumes nothing.
use Rattle.bits.proofs.Rows.{zero-rows}
use Rattle.table.specs.Table.{part_words}
use Rattle.published_rows.specs.Memory.{slots}
use Rattle.published_rows.proofs.blank_memory.Goals as goal

pub returns : goal.returns
returns c = zero-rows slots part_words
