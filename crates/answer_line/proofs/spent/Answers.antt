-- `spent` meets its contract: a word, the statement, the ticks and byte 10. Assumes nothing.
use native.Mathlib.Omega.{arith}
use borrow.Author.Rules.{rules}
use Rattle.language.proofs.Lengths.{number-most}
use Rattle.statement_writer.proofs.Puts.{put_then, put-length}
use Rattle.answer_line.specs.AnswerLine.{spent_line}
use Rattle.answer_line.proofs.spent.Goals as goal

pub number-k2-requires : goal.number-k2-requires
number-k2-requires c = omega (arith, number-most c.args.n (search rules))

pub ticks-k3-requires : goal.ticks-k3-requires
ticks-k3-requires c = omega (arith, number-most c.args.n (search rules))

pub byte-requires : goal.byte-requires
byte-requires c =
    omega (arith, c.ticks-k3.ensures.1, put-length c.ticks-k3.ensures.0, number-most c.args.n (search rules))

pub returns : goal.returns
unfolding spent_line
returns c =
    (put_then c.word-k1.ensures (put_then c.number-k2.ensures (put_then c.ticks-k3.ensures.0 c.byte.ensures)), omega (arith, c.word-k1.ensures.after, c.number-k2.ensures.after, c.ticks-k3.ensures.1, c.byte.ensures.after, number-most c.args.n (search rules)))
