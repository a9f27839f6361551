-- `variable` meets its contract: the text, then spaces up to the end of its columns. Assumes nothing.
use native.Mathlib.Omega.{arith}
use Rattle.language.proofs.Lengths.{variable-most}
use Rattle.comparison.specs.Lines.{differs_columns}
use Rattle.comparison.proofs.Room.{column-room, column-put}
use Rattle.comparison.proofs.variable.Goals as goal

pub variable-k-requires : goal.variable-k-requires
variable-k-requires c = omega (arith, variable-most c.args.x c.requires.valid_variable)

pub overflow_sub-at : goal.overflow_sub-at
overflow_sub-at c = omega (arith, variable-most c.args.x c.requires.valid_variable, c.variable-k.ensures.after)

pub spaces-requires : goal.spaces-requires
spaces-requires c = column-room differs_columns c.variable-k.ensures (omega (arith, variable-most c.args.x c.requires.valid_variable)) c.requires.differs_columns_in_bounds

pub returns : goal.returns
returns c = column-put differs_columns c.variable-k.ensures (omega (arith, variable-most c.args.x c.requires.valid_variable)) c.spaces.ensures
