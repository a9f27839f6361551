-- `atoms::note` meets its contract: statement by statement. Assumes nothing.
use lib.Dec.{eqb}
use borrow.Author.Rules.{rules}
use Rattle.atoms.specs.Facts.{defined_row, used_row}
use Rattle.atoms.proofs.Found.{marked_both}
use Rattle.atoms.proofs.note.Goals as goal

pub returns-in-Write : goal.returns-in-Write
returns-in-Write c = rw c.in-Write.is (marked_both {f = eqb (used_row c.in-Write.x)} (search rules) c.note_kept.ensures)

pub returns-in-Assign : goal.returns-in-Assign
returns-in-Assign c = rw c.in-Assign.is (marked_both {f = eqb (defined_row c.in-Assign.x)} (search rules) c.note_expression.ensures)
