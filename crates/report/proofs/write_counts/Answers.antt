-- `write_counts` meets its contract: two words, two numbers and byte 10. Assumes nothing.
use native.Mathlib.Omega.{arith}
use Rattle.statement_writer.proofs.Puts.{put_then}
use Rattle.report.specs.Report.{counts_line}
use Rattle.report.proofs.Lines.{counts-length}
use Rattle.report.proofs.write_counts.Goals as goal

pub word-k1-requires : goal.word-k1-requires
word-k1-requires c = omega (arith, counts-length c.args.count c.args.accepted)

pub number-k2-requires : goal.number-k2-requires
number-k2-requires c =
    omega (arith, counts-length c.args.count c.args.accepted)

pub word-k3-requires : goal.word-k3-requires
word-k3-requires c =
    omega (arith, counts-length c.args.count c.args.accepted)

pub number-k4-requires : goal.number-k4-requires
number-k4-requires c =
    omega (arith, counts-length c.args.count c.args.accepted)

pub byte-requires : goal.byte-requires
byte-requires c =
    omega (arith, counts-length c.args.count c.args.accepted)

pub returns : goal.returns
unfolding counts_line
returns c =
    put_then c.word-k1.ensures (put_then c.number-k2.ensures (put_then c.word-k3.ensures (put_then c.number-k4.ensures c.byte.ensures)))
