-- `value` meets its contract: the variable, a word and the value. Assumes nothing.
use native.Mathlib.Omega.{arith}
use Rattle.statement_writer.proofs.Puts.{put_then}
use Rattle.trace.specs.Trace.{value_text}
use Rattle.trace.proofs.Room.{value-length}
use Rattle.trace.proofs.value.Goals as goal

pub variable-k1-requires : goal.variable-k1-requires
variable-k1-requires c = omega (arith, value-length c.args.x c.args.v)

pub word-k2-requires : goal.word-k2-requires
word-k2-requires c =
    omega (arith, value-length c.args.x c.args.v)

pub constant-requires : goal.constant-requires
constant-requires c =
    omega (arith, value-length c.args.x c.args.v)

pub returns : goal.returns
unfolding value_text
returns c = put_then c.variable-k1.ensures (put_then c.word-k2.ensures c.constant.ensures)
