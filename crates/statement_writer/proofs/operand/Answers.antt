use mathlib.Core.Path.{ap}
use native.Mathlib.Omega.{arith}
use lib.ListN.{length}
use Rattle.language.specs.Spelling.{spell_operand}
use Rattle.statement_writer.proofs.operand.Goals as goal

pub variable-requires : goal.variable-requires
unfolding spell_operand
variable-requires c = omega (arith, ap (λ z. length (spell_operand z)) c.in-Variable.is, c.requires)

pub constant-requires : goal.constant-requires
unfolding spell_operand
constant-requires c = omega (arith, ap (λ z. length (spell_operand z)) c.in-Constant.is, c.requires)

pub returns-in-Variable : goal.returns-in-Variable
unfolding spell_operand
returns-in-Variable c = rw c.in-Variable.is c.variable.ensures

pub returns-in-Constant : goal.returns-in-Constant
unfolding spell_operand
returns-in-Constant c = rw c.in-Constant.is c.constant.ensures
