-- `steps` meets its contract: a word, the steps and the ticks. Assumes nothing.
use native.Mathlib.Omega.{arith}
use borrow.Author.Rules.{rules}
use Rattle.language.proofs.Lengths.{number-most}
use Rattle.statement_writer.proofs.Puts.{put_then}
use Rattle.answer_line.specs.AnswerLine.{steps_text}
use Rattle.answer_line.proofs.steps.Goals as goal

pub number-k2-requires : goal.number-k2-requires
number-k2-requires c = omega (arith, number-most c.args.k (search rules))

pub ticks-requires : goal.ticks-requires
ticks-requires c = omega (arith, number-most c.args.k (search rules))

pub returns : goal.returns
unfolding steps_text
returns c =
    (put_then c.word-k1.ensures (put_then c.number-k2.ensures c.ticks.ensures.0), omega (arith, c.word-k1.ensures.after, c.number-k2.ensures.after, c.ticks.ensures.1, number-most c.args.k (search rules)))
