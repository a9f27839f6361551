-- `write_refused` meets its contract: a word, the number and byte 10. Assumes nothing.
use Rattle.report.proofs.Lines.{refused-length}
use Rattle.report.specs.Report.{refused_line}
use Rattle.statement_writer.proofs.Puts.{put_then}
use native.Mathlib.Omega.{arith}
use Rattle.report.proofs.write_refused.Goals as goal

pub word-k1-requires : goal.word-k1-requires
word-k1-requires c = omega (arith, refused-length c.args.n)

pub number-k2-requires : goal.number-k2-requires
number-k2-requires c = omega (arith, refused-length c.args.n)

pub byte-requires : goal.byte-requires
byte-requires c = omega (arith, refused-length c.args.n)

pub returns : goal.returns
unfolding refused_line
returns c = put_then c.word-k1.ensures (put_then c.number-k2.ensures c.byte.ensures)
