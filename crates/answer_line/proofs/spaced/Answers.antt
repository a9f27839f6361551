-- `spaced` meets its contract. The invariant: the values so far are written. Assumes nothing.
use native.Mathlib.Omega.{arith}
use lib.ListN.{get_or}
use Rattle.language.specs.Kept.{kept_count}
use Rattle.language.proofs.Lengths.{constant-most}
use Rattle.statement_writer.proofs.Puts.{put_then, put-length}
use Rattle.statement_writer.proofs.Series.{parts-most, none_written, part_room, one_written, all-written}
use Rattle.answer_line.proofs.Lengths.{spaced-parts}
use Rattle.answer_line.proofs.spaced.Goals as goal

pub loop-value-init : goal.loop-value-init
loop-value-init c = none_written (spaced-parts c.args.kept.now) c.requires

pub byte-k-requires : goal.byte-k-requires
byte-k-requires c = omega (arith, part_room (spaced-parts c.args.kept.now) c.loop-value.invariant (omega arith))

pub constant-to-requires : goal.constant-to-requires
constant-to-requires c =
    let ks = c.args.kept.now in
    omega (arith, c.byte-k.ensures.after, put-length c.byte-k.ensures, part_room (spaced-parts ks) c.loop-value.invariant (omega arith), constant-most (get_or ks c.loop-value.value-index 0))

pub loop-value-preserved : goal.loop-value-preserved
loop-value-preserved c =
    one_written (spaced-parts c.args.kept.now) c.loop-value.invariant (omega arith) (put_then c.byte-k.ensures c.constant-to.ensures)

pub returns : goal.returns
returns c =
    let all = all-written c.loop-value.invariant (omega arith) in
    (all, omega (arith, all.after, parts-most (spaced-parts c.args.kept.now) kept_count (omega arith)))
