-- `in_place` meets its contract. Assumes nothing.
use Rattle.base.proofs.Decides.{decides_eqb}
use Rattle.program.proofs.in_place.Goals as goal

pub returns-in-Read : goal.returns-in-Read
returns-in-Read c = rw c.in-Read.is (decides_eqb c.args.s 0)

pub returns-in-Write : goal.returns-in-Write
returns-in-Write c = rw c.in-Write.is c.last.ensures

pub returns-in-Assign : goal.returns-in-Assign
returns-in-Assign c = rw c.in-Assign.is c.inner.ensures

pub returns-in-Branch : goal.returns-in-Branch
returns-in-Branch c = rw c.in-Branch.is c.inner-in-Branch.ensures

pub returns-in-Skip : goal.returns-in-Skip
returns-in-Skip c = rw c.in-Skip.is c.inner-in-Skip.ensures
