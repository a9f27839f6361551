use native.Mathlib.Omega.{arith}
use Rattle.language.specs.Spelling.{spell_variable}
use Rattle.statement_writer.proofs.Puts.{put_then}
use Rattle.language.proofs.Lengths.{variable-length}
use Rattle.statement_writer.proofs.variable.Goals as goal

pub byte-k-requires : goal.byte-k-requires
byte-k-requires c = omega (arith, variable-length c.args.x, c.requires)

pub number-requires : goal.number-requires
number-requires c = omega (arith, variable-length c.args.x, c.requires)

pub returns : goal.returns
unfolding spell_variable
returns c = put_then c.byte-k.ensures c.number.ensures
