-- `fault` meets its contract: a word, the statement, the steps and ticks, and byte 10. Assumes nothing.
use native.Mathlib.Omega.{arith}
use borrow.Author.Rules.{rules}
use Rattle.language.proofs.Lengths.{number-most}
use Rattle.statement_writer.proofs.Puts.{put_then, put-length}
use Rattle.answer_line.specs.AnswerLine.{fault_line}
use Rattle.answer_line.proofs.fault.Goals as goal

pub number-there-requires : goal.number-there-requires
number-there-requires c = omega (arith, number-most c.args.n (search rules))

pub steps-end-requires : goal.steps-end-requires
steps-end-requires c = omega (arith, number-most c.args.n (search rules))

pub byte-requires : goal.byte-requires
byte-requires c =
    omega (arith, c.steps-end.ensures.1, put-length c.steps-end.ensures.0, number-most c.args.n (search rules))

pub returns : goal.returns
unfolding fault_line
returns c =
    (put_then c.word-told.ensures (put_then c.number-there.ensures (put_then c.steps-end.ensures.0 c.byte.ensures)), omega (arith, c.word-told.ensures.after, c.number-there.ensures.after, c.steps-end.ensures.1, c.byte.ensures.after, number-most c.args.n (search rules)))
