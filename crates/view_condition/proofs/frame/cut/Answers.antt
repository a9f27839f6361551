-- A number of 32 bits has room in its ten bytes.
use Rattle.std.proofs.Common.{sym}
use native.Mathlib.Omega.{arith}
use lib.Seq.{length-take-le}
use Rattle.language.proofs.Lengths.{number-most}
use Rattle.statement_writer.proofs.Puts.{put-within}
use Rattle.view_condition.proofs.frame.cut.Goals as goal

pub number-k-requires : goal.number-k-requires
number-k-requires c = omega (arith, number-most c.args.n c.ranges.n.fits)

pub slice_bounds-out-end : goal.slice_bounds-out-end
slice_bounds-out-end c = put-within c.number-k.ensures (number-most c.args.n c.ranges.n.fits)

pub slice_bounds-write-end : goal.slice_bounds-write-end
slice_bounds-write-end c = sym (length-take-le _ _ (put-within c.number-k.ensures (number-most c.args.n c.ranges.n.fits)))
