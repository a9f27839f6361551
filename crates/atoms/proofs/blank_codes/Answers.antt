-- `atoms::blank_codes` meets its contract: the codes are zeros. Assumes nothing.
use Rattle.program.specs.Program.{most}
use Rattle.bits.proofs.Rows.{zero-rows}
use Rattle.codes.specs.Codes.{code_word_count}
use Rattle.atoms.proofs.blank_codes.Goals as goal

pub returns : goal.returns
returns c = zero-rows most code_word_count
