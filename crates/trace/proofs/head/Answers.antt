-- `head` meets its contract: two numbers and the statement in their columns. Assumes nothing.
use native.Mathlib.Omega.{arith}
use Rattle.statement_writer.proofs.Puts.{put_then}
use Rattle.trace.specs.Trace.{step_head}
use Rattle.trace.proofs.Room.{head-length}
use Rattle.trace.proofs.head.Goals as goal

pub number-k1-requires : goal.number-k1-requires
number-k1-requires c = omega (arith, head-length c.args.k c.args.place c.args.s)

pub spaces-k2-requires : goal.spaces-k2-requires
spaces-k2-requires c =
    omega (arith, head-length c.args.k c.args.place c.args.s)

pub number-k3-requires : goal.number-k3-requires
number-k3-requires c =
    omega (arith, head-length c.args.k c.args.place c.args.s)

pub spaces-k4-requires : goal.spaces-k4-requires
spaces-k4-requires c =
    omega (arith, head-length c.args.k c.args.place c.args.s)

pub statement-requires : goal.statement-requires
statement-requires c =
    omega (arith, head-length c.args.k c.args.place c.args.s)

pub returns : goal.returns
unfolding step_head
returns c =
    put_then c.number-k1.ensures (put_then c.spaces-k2.ensures (put_then c.number-k3.ensures (put_then c.spaces-k4.ensures c.statement.ensures)))
