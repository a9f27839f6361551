-- `line` meets its contract: three numbers with spaces between, and byte 10. Assumes nothing.
use native.Mathlib.Omega.{arith}
use Rattle.statement_writer.proofs.Puts.{put_then}
use Rattle.price_text.specs.PriceText.{price_line}
use Rattle.price_text.proofs.Printed.{line-length}
use Rattle.price_text.proofs.line.Goals as goal

pub number-k1-requires : goal.number-k1-requires
number-k1-requires c = omega (arith, line-length c.args.n c.args.b c.args.a)

pub byte-k2-requires : goal.byte-k2-requires
byte-k2-requires c = omega (arith, line-length c.args.n c.args.b c.args.a)

pub number-k3-requires : goal.number-k3-requires
number-k3-requires c = omega (arith, line-length c.args.n c.args.b c.args.a)

pub byte-k4-requires : goal.byte-k4-requires
byte-k4-requires c = omega (arith, line-length c.args.n c.args.b c.args.a)

pub number-k5-requires : goal.number-k5-requires
number-k5-requires c = omega (arith, line-length c.args.n c.args.b c.args.a)

pub byte-requires : goal.byte-requires
byte-requires c = omega (arith, c.requires, line-length c.args.n c.args.b c.args.a)

pub returns : goal.returns
unfolding price_line
returns c =
    put_then c.number-k1.ensures (put_then c.byte-k2.ensures (put_then c.number-k3.ensures (put_then c.byte-k4.ensures (put_then c.number-k5.ensures c.byte.ensures))))
