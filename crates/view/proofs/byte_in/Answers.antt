-- `byte_in` meets its contract. Assumes nothing.
use native.Mathlib.Omega.{arith}
use Rattle.view.proofs.byte_in.Goals as goal

pub overflow_add-k-in-Marks : goal.overflow_add-k-in-Marks
overflow_add-k-in-Marks c = let h = rw c.in-Marks.is at c.requires.placed in let t = c.requires.tabled.few in record { fits = omega arith }

pub contains-requires : goal.contains-requires
contains-requires c = let h = rw c.in-Marks.is at c.requires.placed in let t = c.requires.tabled.few in let l = c.requires.tabled.size in omega arith

pub returns-then-contains : goal.returns-then-contains
returns-then-contains c = rw (c.in-Marks.is, ← c.contains.ensures, c.if-contains.true)

pub returns-in-Tens : goal.returns-in-Tens
returns-in-Tens c = rw c.in-Tens.is c.tens_digit.ensures

pub returns-in-Units : goal.returns-in-Units
returns-in-Units c = rw c.in-Units.is

pub returns-else-contains : goal.returns-else-contains
returns-else-contains c = rw (c.in-Marks.is, ← c.contains.ensures, c.if-contains.false)
