-- `blank_rows` meets its contract. Assumes nothing.
use Rattle.bits.proofs.Rows.{zeros}
use Rattle.published_rows.specs.Rows.{published_words}
use Rattle.published_rows.proofs.blank_rows.Goals as goal

pub returns : goal.returns
returns c = zeros published_words
