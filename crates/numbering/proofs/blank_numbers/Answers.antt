-- `blank_numbers` meets its contract. Assumes nothing.
use Rattle.bits.proofs.Rows.{zeros}
use Rattle.condition.specs.Texts.{most_parts}
use Rattle.numbering.proofs.blank_numbers.Goals as goal

pub returns : goal.returns
returns c = zeros most_parts
