-- `largest_behind` meets its contract. Assumes nothing.
use Rattle.base.specs.Bytes.{byte}
use borrow.Author.Tests.{ne_eqb}
use Rattle.slips.proofs.largest_behind.Goals as goal

pub returns-in-105 : goal.returns-in-105
returns-in-105 c = rw c.in-105.is

pub returns-in-45 : goal.returns-in-45
returns-in-45 c = rw c.in-45.is

pub returns-in_default : goal.returns-in_default
returns-in_default c = let n = c.in_default.in_default-own.rest in rw (ne_eqb _ (byte "i") n.0.1, ne_eqb _ (byte "-") n.1)
