-- `atoms::blank` meets its contract: the rows are zeros. Assumes nothing.
use Rattle.bits.proofs.Rows.{zeros}
use Rattle.atoms.specs.Facts.{fact_words}
use Rattle.atoms.proofs.blank.Goals as goal

pub returns : goal.returns
returns c = zeros fact_words
