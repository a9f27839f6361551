-- `lines` meets its contract. The invariant: the lines of the statements before place s are written. Assumes nothing.
use Prim.Native.Nat.{◌+◌, ◌-◌}
use native.Mathlib.Omega.{arith}
use lib.ListN.{get_or}
use Rattle.statement_writer.proofs.Puts.{put-length}
use Rattle.statement_writer.proofs.Series.{parts-most, none_written, part_room, one_written, all-written}
use Rattle.price_text.proofs.Printed.{line-most, line-parts}
use Rattle.price_text.proofs.lines.Goals as goal

pub loop-s-init : goal.loop-s-init
loop-s-init c = none_written (line-parts c.args.n c.args.before.now c.args.after.now c.requires.0 c.requires.2 c.requires.3) c.requires.1

pub line-to-requires : goal.line-to-requires
line-to-requires c =
    let more = c.loop-s-test.true in
    let few = c.requires.0 in
    omega (arith, part_room (line-parts c.args.n c.args.before.now c.args.after.now c.requires.0 c.requires.2 c.requires.3) c.loop-s.invariant more, line-most (c.loop-s.s + 1) (get_or c.args.before.now c.loop-s.s 0) (get_or c.args.after.now c.loop-s.s 0) (omega (arith, more, few)) (c.requires.2 c.loop-s.s) (c.requires.3 c.loop-s.s))

pub loop-s-preserved : goal.loop-s-preserved
loop-s-preserved c = one_written (line-parts c.args.n c.args.before.now c.args.after.now c.requires.0 c.requires.2 c.requires.3) c.loop-s.invariant c.loop-s-test.true c.line-to.ensures

pub returns : goal.returns
returns c =
    let all = all-written c.loop-s.invariant c.loop-s-test.false in
    (all, omega (arith, all.after, parts-most (line-parts c.args.n c.args.before.now c.args.after.now c.requires.0 c.requires.2 c.requires.3) c.args.n (omega arith)))
