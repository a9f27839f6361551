-- `explain::blank_table` meets its contract. Assumes nothing.
use Rattle.tabulate.specs.Tabulate.{table_words}
use Rattle.bits.proofs.Rows.{zeros}
use Rattle.explain.proofs.blank_table.Goals as goal

pub returns : goal.returns
returns c = zeros table_words
