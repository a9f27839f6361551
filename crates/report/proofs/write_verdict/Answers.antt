-- `write_verdict` meets its contract: two numbers with a space between, and byte 10. Assumes nothing.
use Rattle.report.proofs.Lines.{verdict-length}
use Rattle.report.specs.Report.{verdict_line}
use Rattle.statement_writer.proofs.Puts.{put_then}
use native.Mathlib.Omega.{arith}
use Rattle.report.proofs.write_verdict.Goals as goal

pub number-k1-requires : goal.number-k1-requires
number-k1-requires c = omega (arith, verdict-length c.args.n c.args.v)

pub byte-k2-requires : goal.byte-k2-requires
byte-k2-requires c = omega (arith, verdict-length c.args.n c.args.v)

pub number-k3-requires : goal.number-k3-requires
number-k3-requires c = omega (arith, verdict-length c.args.n c.args.v)

pub byte-requires : goal.byte-requires
byte-requires c = omega (arith, verdict-length c.args.n c.args.v)

pub returns : goal.returns
unfolding verdict_line
returns c =
    put_then c.number-k1.ensures (put_then c.byte-k2.ensures (put_then c.number-k3.ensures c.byte.ensures))
