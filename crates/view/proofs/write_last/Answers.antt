-- `write_last` meets its contract: three words, three numbers and byte 10. Assumes nothing.
use native.Mathlib.Omega.{arith}
use Rattle.statement_writer.proofs.Puts.{put_then}
use Rattle.view.specs.View.{last_line}
use Rattle.view.proofs.Texts.{last-length}
use Rattle.view.proofs.write_last.Goals as goal

pub word-k1-requires : goal.word-k1-requires
word-k1-requires c = omega (arith, last-length c.args.n c.args.satisfied c.args.first)

pub number-k2-requires : goal.number-k2-requires
number-k2-requires c = omega (arith, last-length c.args.n c.args.satisfied c.args.first)

pub word-k3-requires : goal.word-k3-requires
word-k3-requires c = omega (arith, last-length c.args.n c.args.satisfied c.args.first)

pub number-k4-requires : goal.number-k4-requires
number-k4-requires c = omega (arith, last-length c.args.n c.args.satisfied c.args.first)

pub word-k5-requires : goal.word-k5-requires
word-k5-requires c = omega (arith, last-length c.args.n c.args.satisfied c.args.first)

pub number-k6-requires : goal.number-k6-requires
number-k6-requires c = omega (arith, last-length c.args.n c.args.satisfied c.args.first)

pub byte-requires : goal.byte-requires
byte-requires c = omega (arith, last-length c.args.n c.args.satisfied c.args.first)

pub returns : goal.returns
unfolding last_line
returns c =
    put_then c.word-k1.ensures (put_then c.number-k2.ensures (put_then c.word-k3.ensures (put_then c.number-k4.ensures
    (put_then c.word-k5.ensures (put_then c.number-k6.ensures c.byte.ensures)))))
