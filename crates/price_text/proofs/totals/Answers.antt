-- `totals` meets its contract: two numbers and a signed one, each with byte 10. Assumes nothing.
use native.Mathlib.Omega.{arith}
use mir.Syntax.{w32}
use mir.Val.{of_z}
use mir.Facts.{to_z-of_z}
use Rattle.language.proofs.Lengths.{number-most, constant-most}
use Rattle.statement_writer.proofs.Puts.{put_then}
use Rattle.price_text.specs.PriceText.{total_lines}
use Rattle.price_text.proofs.totals.Goals as goal

pub number-k1-requires : goal.number-k1-requires
number-k1-requires c = omega (arith, number-most c.args.g c.ranges.g.fits)

pub byte-k2-requires : goal.byte-k2-requires
byte-k2-requires c = omega (arith, number-most c.args.g c.ranges.g.fits)

pub number-k3-requires : goal.number-k3-requires
number-k3-requires c = omega (arith, number-most c.args.g c.ranges.g.fits, number-most c.args.r c.ranges.r.fits)

pub byte-k4-requires : goal.byte-k4-requires
byte-k4-requires c = omega (arith, number-most c.args.g c.ranges.g.fits, number-most c.args.r c.ranges.r.fits)

pub signed-k5-requires : goal.signed-k5-requires
signed-k5-requires c =
    omega (arith, number-most c.args.g c.ranges.g.fits, number-most c.args.r c.ranges.r.fits, constant-most (of_z w32 c.args.s))

pub byte-requires : goal.byte-requires
byte-requires c =
    omega (arith, c.requires, number-most c.args.g c.ranges.g.fits, number-most c.args.r c.ranges.r.fits, constant-most (of_z w32 c.args.s))

pub returns : goal.returns
unfolding total_lines
returns c = (
  put_then c.number-k1.ensures (put_then c.byte-k2.ensures (put_then c.number-k3.ensures (put_then c.byte-k4.ensures (put_then (rw (to_z-of_z {w = w32} c.ranges.s) at (c.signed-k5.ensures)) c.byte.ensures)))),
  omega (arith, c.number-k1.ensures.after, c.byte-k2.ensures.after, c.number-k3.ensures.after, c.byte-k4.ensures.after, c.signed-k5.ensures.after, c.byte.ensures.after, number-most c.args.g c.ranges.g.fits, number-most c.args.r c.ranges.r.fits, constant-most (of_z w32 c.args.s)),
)
