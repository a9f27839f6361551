-- `atoms::row` meets its contract: atom by atom. Assumes nothing.
use Rattle.atoms.proofs.Rows.{sized}
use Rattle.atoms.proofs.row.Goals as goal

pub returns-in-Stmt : goal.returns-in-Stmt
returns-in-Stmt c = rw c.in-Stmt.is (λ P size f. c.statement_row.ensures P _ (sized P _ _ _ size f))

pub returns-in-Trans : goal.returns-in-Trans
returns-in-Trans c = rw c.in-Trans.is (λ P size f. c.trans_row.ensures P _ (sized P _ _ _ size f))
