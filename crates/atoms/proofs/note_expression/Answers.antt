-- `atoms::note_expression` meets its contract: the rows of both operands are marked. Assumes nothing.
use Rattle.atoms.proofs.Found.{marked_both}
use Rattle.atoms.proofs.note_expression.Goals as goal

pub returns-in-Binary : goal.returns-in-Binary
returns-in-Binary c = rw c.in-Binary.is (marked_both c.note_operand-in-Binary.ensures c.note_operand-in-Binary-2.ensures)
