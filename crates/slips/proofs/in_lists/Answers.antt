-- `in_lists` meets its contract: by the number of the refusal. Assumes nothing.
use Rattle.slips.specs.Slips.{list_slip}
use borrow.Author.Tests.{ne_eqb}
use Rattle.slips.proofs.in_lists.Goals as goal

pub returns-in-9 : goal.returns-in-9
unfolding list_slip
returns-in-9 c = rw c.in-9.is c.on_line.ensures

pub returns-in_default : goal.returns-in_default
unfolding list_slip
returns-in_default c = let n = c.in_default.in_default-own.rest in rw (ne_eqb _ 9 n.1) c.in_program.ensures
