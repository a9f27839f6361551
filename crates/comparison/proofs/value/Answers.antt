-- `value` meets its contract: the text, then spaces up to the end of its columns. Assumes nothing.
use native.Mathlib.Omega.{arith}
use Rattle.language.proofs.Lengths.{constant-most}
use Rattle.comparison.specs.Lines.{value_columns}
use Rattle.comparison.proofs.Room.{column-room, column-put}
use Rattle.comparison.proofs.value.Goals as goal

pub constant-k-requires : goal.constant-k-requires
constant-k-requires c = omega (arith, constant-most c.args.v)

pub overflow_sub-at : goal.overflow_sub-at
overflow_sub-at c = omega (arith, constant-most c.args.v, c.constant-k.ensures.after)

pub spaces-requires : goal.spaces-requires
spaces-requires c = column-room value_columns c.constant-k.ensures (omega (arith, constant-most c.args.v)) c.requires

pub returns : goal.returns
returns c = column-put value_columns c.constant-k.ensures (omega (arith, constant-most c.args.v)) c.spaces.ensures
