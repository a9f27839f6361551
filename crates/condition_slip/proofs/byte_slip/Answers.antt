-- `byte_slip` meets its contract: by the byte, and for a space by those beside it. Assumes nothing.
use Rattle.condition_slip.specs.ConditionSlip.{byte_slip}
use borrow.Author.Tests.{ne_eqb}
use Rattle.condition_slip.proofs.byte_slip.Goals as goal

pub returns-in-13 : goal.returns-in-13
unfolding byte_slip
returns-in-13 c = rw c.in-13.is

pub returns-in-9 : goal.returns-in-9
unfolding byte_slip
returns-in-9 c = rw c.in-9.is

pub returns-in-10 : goal.returns-in-10
unfolding byte_slip
returns-in-10 c = rw c.in-10.is

pub returns-then-shows : goal.returns-then-shows
unfolding byte_slip
returns-then-shows c = let n = c.in_default.in_default-own.rest in rw (rw (c.shows.ensures, c.shows-in_default.ensures) at c.if-shows.true, ne_eqb _ 13 n.0.0.1, ne_eqb _ 9 n.0.1, ne_eqb _ 10 n.1)

pub returns-else-shows : goal.returns-else-shows
unfolding byte_slip
returns-else-shows c = let n = c.in_default.in_default-own.rest in rw (rw (c.shows.ensures, c.shows-in_default.ensures) at c.if-shows.false, ne_eqb _ 13 n.0.0.1, ne_eqb _ 9 n.0.1, ne_eqb _ 10 n.1)
