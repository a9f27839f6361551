-- `blank_keys` meets its contract. Assumes nothing.
use Rattle.bits.proofs.Rows.{zero-rows}
use Rattle.codes.specs.Codes.{code_word_count}
use Rattle.published_rows.specs.Memory.{slots}
use Rattle.published_rows.proofs.blank_keys.Goals as goal

pub returns : goal.returns
returns c = zero-rows slots code_word_count
