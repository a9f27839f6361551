-- `moved` meets its contract. Assumes nothing.
use native.Mathlib.Omega.{arith}
use Rattle.joining.proofs.moved.Goals as goal

pub overflow_add-a : goal.overflow_add-a
overflow_add-a c = let t = rw c.in-Branch.is at c.requires.0 in omega (arith, t.0.1, c.requires.1)

pub overflow_add-b : goal.overflow_add-b
overflow_add-b c = let t = rw c.in-Branch.is at c.requires.0 in omega (arith, t.1.1, c.requires.1)

pub returns-in-Read : goal.returns-in-Read
returns-in-Read c = rw c.in-Read.is

pub returns-in-Write : goal.returns-in-Write
returns-in-Write c = rw c.in-Write.is

pub returns-in-Assign : goal.returns-in-Assign
returns-in-Assign c = rw c.in-Assign.is

pub returns-in-Branch : goal.returns-in-Branch
returns-in-Branch c = rw c.in-Branch.is
