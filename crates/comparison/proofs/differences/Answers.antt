-- `differences` meets its contract. The invariant: the differences of the values before x are written. Assumes nothing.
use Prim.Native.Nat.{◌-◌}
use Rattle.comparison.proofs.Room.{differences-parts}
use Rattle.statement_writer.proofs.Puts.{put-length}
use Rattle.statement_writer.proofs.Series.{none_written, part_room, one_written, all-written}
use Rattle.comparison.proofs.differences.Goals as goal

pub loop-x-init : goal.loop-x-init
loop-x-init c = none_written (differences-parts c.args.a.now c.args.b.now) c.requires

pub difference-to-requires : goal.difference-to-requires
difference-to-requires c =
    record { x_lt_variables = c.loop-x-test.true; pair_room_in_bounds = part_room (differences-parts c.args.a.now c.args.b.now) c.loop-x.invariant c.loop-x-test.true }

pub loop-x-preserved : goal.loop-x-preserved
loop-x-preserved c =
    one_written (differences-parts c.args.a.now c.args.b.now) c.loop-x.invariant c.loop-x-test.true c.difference-to.ensures

pub returns : goal.returns
returns c = all-written c.loop-x.invariant c.loop-x-test.false
