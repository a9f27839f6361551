-- `answer_text` meets its contract: the line of the answer, and the values of one that is spent. Assumes nothing.
use mathlib.Core.List.{append-nil}
use native.Mathlib.Omega.{arith}
use Rattle.language.specs.Spelling.{variables}
use Rattle.statement_writer.proofs.Puts.{put_then}
use Rattle.statement_writer.proofs.Series.{parts-most}
use Rattle.answer_line.specs.AnswerLine.{line_of_answer}
use Rattle.outcome.specs.Outcome.{answer_values, answer_text}
use Rattle.outcome.proofs.Lengths.{lines-parts}
use Rattle.outcome.proofs.answer_text.Goals as goal

pub value_lines-requires : goal.value_lines-requires
value_lines-requires c = let line = rw c.in-Spent.is at c.write-k.ensures in omega (arith, line.1, c.requires)

pub returns-in-Ended : goal.returns-in-Ended
unfolding answer_text answer_values
returns-in-Ended c =
    let line = rw c.in-Ended.is at c.write-k.ensures in
    rw (c.in-Ended.is, append-nil (line_of_answer _ _)) (line.0, omega (arith, line.1))

pub returns-in-Fault : goal.returns-in-Fault
unfolding answer_text answer_values
returns-in-Fault c =
    let line = rw c.in-Fault.is at c.write-k.ensures in
    rw (c.in-Fault.is, append-nil (line_of_answer _ _)) (line.0, omega (arith, line.1))

pub returns-in-Spent : goal.returns-in-Spent
unfolding answer_text answer_values
returns-in-Spent c =
    let line = rw c.in-Spent.is at c.write-k.ensures in
    rw c.in-Spent.is
    (put_then line.0 c.value_lines.ensures, omega (arith, line.1, c.value_lines.ensures.after, parts-most (lines-parts c.args.values.now) variables (omega arith)))
