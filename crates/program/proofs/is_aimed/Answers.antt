use Rattle.program.proofs.is_aimed.Goals as goal

pub returns-in-Read : goal.returns-in-Read
returns-in-Read c = rw c.in-Read.is tt

pub returns-in-Write : goal.returns-in-Write
returns-in-Write c = rw c.in-Write.is tt

pub returns-in-Assign : goal.returns-in-Assign
returns-in-Assign c = rw c.in-Assign.is tt

pub returns-in-Skip : goal.returns-in-Skip
returns-in-Skip c = rw c.in-Skip.is tt
