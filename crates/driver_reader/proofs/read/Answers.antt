-- `driver_reader::read` meets its contract: the set is empty before the names are read, and beside a refusal.
-- Assumes nothing.
use Rattle.driver_reader.proofs.read.Goals as goal

pub returns-then-names : goal.returns-then-names
returns-then-names c = rw c.if-names.true at c.names.ensures

pub returns : goal.returns
returns c = (rw c.if-names.false at c.names.ensures, c.clear-2.ensures)
