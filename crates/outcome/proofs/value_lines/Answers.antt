-- `value_lines` meets its contract. The invariant: the lines of the values before x are written. Assumes nothing.
use Prim.Native.Nat.{◌-◌}
use native.Mathlib.Omega.{arith}
use lib.ListN.{get_or}
use Rattle.statement_writer.proofs.Puts.{put_then, put-length}
use Rattle.trace.proofs.Room.{value-most}
use Rattle.statement_writer.proofs.Series.{none_written, part_room, one_written, all-written}
use Rattle.outcome.proofs.Lengths.{lines-parts}
use Rattle.outcome.proofs.value_lines.Goals as goal

pub loop-x-init : goal.loop-x-init
loop-x-init c = none_written (lines-parts c.args.values.now) c.requires

pub value-k-requires : goal.value-k-requires
value-k-requires c =
    let vs = c.args.values.now in
    let x = c.loop-x.x in
    omega (arith, part_room (lines-parts vs) c.loop-x.invariant c.loop-x-test.true, value-most x (get_or vs x 0) c.loop-x-test.true)

pub byte-to-requires : goal.byte-to-requires
byte-to-requires c =
    let vs = c.args.values.now in
    let more = c.loop-x-test.true in
    omega (arith, c.value-k.ensures.after, put-length c.value-k.ensures, part_room (lines-parts vs) c.loop-x.invariant more, value-most c.loop-x.x (get_or vs c.loop-x.x 0) more)

pub loop-x-preserved : goal.loop-x-preserved
loop-x-preserved c =
    one_written (lines-parts c.args.values.now) c.loop-x.invariant c.loop-x-test.true (put_then c.value-k.ensures c.byte-to.ensures)

pub shape_of-out : goal.shape_of-out
shape_of-out c = put-length c.loop-x.invariant.put

pub returns : goal.returns
returns c = all-written c.loop-x.invariant c.loop-x-test.false
