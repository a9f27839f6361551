-- `ticks` meets its contract: a word and a number of 64 bits. Assumes nothing.
use native.Mathlib.Omega.{arith}
use borrow.Author.Rules.{rules}
use Rattle.statement_writer.proofs.Puts.{put_then}
use Rattle.answer_line.specs.AnswerLine.{ticks_text}
use Rattle.answer_line.proofs.Lengths.{long-most}
use Rattle.answer_line.proofs.ticks.Goals as goal

pub long-requires : goal.long-requires
long-requires c = omega (arith, long-most c.args.t (search rules))

pub returns : goal.returns
unfolding ticks_text
returns c =
    (put_then c.word-k.ensures c.long.ensures, omega (arith, c.word-k.ensures.after, c.long.ensures.after, long-most c.args.t (search rules)))
