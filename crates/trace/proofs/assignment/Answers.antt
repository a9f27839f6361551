-- `assignment` meets its contract: `read` and `:=` assign, and no other statement does. Assumes nothing.
use mathlib.Core.Path.{refl}
use mathlib.Core.List.{List, []}
use Prim.Native.Nat.{ℕ}
use native.Mathlib.Omega.{arith}
use Rattle.statement_writer.specs.Writing.{Put}
use Rattle.trace.proofs.assignment.Goals as goal

none : (o : List ℕ) (at : ℕ) → Put o at [] o at
none o at = record { text = refl; after = omega arith }

pub assigned-requires : goal.assigned-requires
assigned-requires c = record { valid_variable = rw c.in-Read.is at c.requires.valid; assigned_room_in_bounds = omega (arith, c.requires.assigned_room_in_bounds) }

pub assigned-requires-in-Assign : goal.assigned-requires-in-Assign
assigned-requires-in-Assign c = let v = rw c.in-Assign.is at c.requires.valid in record { valid_variable = v.0; assigned_room_in_bounds = omega (arith, c.requires.assigned_room_in_bounds) }

pub returns-in-Read : goal.returns-in-Read
returns-in-Read c = rw c.in-Read.is c.assigned.ensures

pub returns-in-Write : goal.returns-in-Write
returns-in-Write c = rw c.in-Write.is (none _ _)

pub returns-in-Assign : goal.returns-in-Assign
returns-in-Assign c = rw c.in-Assign.is c.assigned-in-Assign.ensures

pub returns-in-Branch : goal.returns-in-Branch
returns-in-Branch c = rw c.in-Branch.is (none _ _)

pub returns-in-Skip : goal.returns-in-Skip
returns-in-Skip c = rw c.in-Skip.is (none _ _)
