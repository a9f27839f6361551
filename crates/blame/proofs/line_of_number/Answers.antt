-- `line_of_number` meets its contract: each number is that of one refusal. Assumes nothing.
use Rattle.blame.proofs.Blames.{number-told, no_number}
use Rattle.program.specs.declared.Refusal.TheVariants.{Misspelled, LineCount, Placement, Target}
use Rattle.blame.proofs.line_of_number.Goals as goal

pub returns-in-2 : goal.returns-in-2
returns-in-2 c = number-told Misspelled c.in-2.is c.line_of.ensures

pub returns-in-3 : goal.returns-in-3
returns-in-3 c = number-told LineCount c.in-3.is c.line_of-in-3.ensures

pub returns-in-4 : goal.returns-in-4
returns-in-4 c = number-told Placement c.in-4.is c.line_of-in-4.ensures

pub returns-in-5 : goal.returns-in-5
returns-in-5 c = number-told Target c.in-5.is c.line_of-in-5.ensures

pub returns-in_default : goal.returns-in_default
returns-in_default c = let n = c.in_default.in_default-own.rest in no_number n.0.0.0.1 n.0.0.1 n.0.1 n.1
