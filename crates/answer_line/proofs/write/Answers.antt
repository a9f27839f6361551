-- `write` meets its contract: each answer has its line. Assumes nothing.
use mir.Syntax.{w32}
use mir.Facts.{to_z-of_z}
use borrow.Author.Rules.{sfits_of}
use Rattle.answer_line.specs.AnswerLine.{line_of_answer}
use Rattle.answer_line.proofs.write.Goals as goal

pub returns-in-Ended : goal.returns-in-Ended
returns-in-Ended c =
    rw c.in-Ended.is (rw (to_z-of_z {w = w32} (sfits_of c.in-Ended.known_told-1-own.given.0.1)) at c.ended.ensures.0, c.ended.ensures.1)

pub returns-in-Fault : goal.returns-in-Fault
unfolding line_of_answer
returns-in-Fault c =
    rw c.in-Fault.is c.fault.ensures

pub returns-in-Spent : goal.returns-in-Spent
unfolding line_of_answer
returns-in-Spent c =
    rw c.in-Spent.is c.spent.ensures
