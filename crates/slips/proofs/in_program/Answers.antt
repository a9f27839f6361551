-- `in_program` meets its contract: by the number of the refusal. Assumes nothing.
use Rattle.slips.specs.Slips.{program_slip}
use borrow.Author.Tests.{ne_eqb}
use Rattle.slips.proofs.in_program.Goals as goal

pub returns-in-2 : goal.returns-in-2
unfolding program_slip
returns-in-2 c = rw c.in-2.is c.on_line.ensures

pub returns-in-5 : goal.returns-in-5
unfolding program_slip
returns-in-5 c = rw c.in-5.is (rw (c.line_of-l.ensures, c.count_lines.ensures) at c.first_outside.ensures)

pub returns-in_default : goal.returns-in_default
unfolding program_slip
returns-in_default c = let n = c.in_default.in_default-own.rest in rw (ne_eqb _ 2 n.0.1, ne_eqb _ 5 n.1)
