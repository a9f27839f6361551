-- `ended` meets its contract: a word, the value, the steps and ticks, a word, the kept values and byte 10. Assumes nothing.
use native.Mathlib.Omega.{arith}
use mir.Syntax.{w32}
use mir.Val.{of_z}
use mir.Facts.{to_z-of_z}
use Rattle.language.proofs.Lengths.{constant-most}
use Rattle.statement_writer.proofs.Puts.{put_then, put-length}
use Rattle.answer_line.specs.AnswerLine.{line_of_answer}
use Rattle.answer_line.proofs.ended.Goals as goal

pub signed-k2-requires : goal.signed-k2-requires
signed-k2-requires c = omega (arith, constant-most (of_z w32 c.args.v))

pub steps-k3-requires : goal.steps-k3-requires
steps-k3-requires c = omega (arith, constant-most (of_z w32 c.args.v))

pub word-k4-requires : goal.word-k4-requires
word-k4-requires c =
    omega (arith, c.steps-k3.ensures.1, put-length c.steps-k3.ensures.0, constant-most (of_z w32 c.args.v))

pub spaced-k5-requires : goal.spaced-k5-requires
spaced-k5-requires c =
    omega (arith, c.steps-k3.ensures.1, put-length c.steps-k3.ensures.0, constant-most (of_z w32 c.args.v))

pub byte-requires : goal.byte-requires
byte-requires c =
    omega (arith, c.steps-k3.ensures.1, put-length c.steps-k3.ensures.0, c.spaced-k5.ensures.1, put-length c.spaced-k5.ensures.0, constant-most (of_z w32 c.args.v))

pub returns : goal.returns
unfolding line_of_answer
returns c = (
  put_then c.word-k1.ensures (put_then (rw (to_z-of_z {w = w32} c.ranges.v) at (c.signed-k2.ensures)) (put_then c.steps-k3.ensures.0 (put_then c.word-k4.ensures (put_then c.spaced-k5.ensures.0 c.byte.ensures)))),
  omega (arith, c.word-k1.ensures.after, c.signed-k2.ensures.after, c.steps-k3.ensures.1, c.word-k4.ensures.after, c.spaced-k5.ensures.1, c.byte.ensures.after, constant-most (of_z w32 c.args.v)),
)
