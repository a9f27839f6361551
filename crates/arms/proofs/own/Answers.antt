-- `arms::own` meets its contract. The statements before place s were looked at.
-- Assumes nothing.
use Rattle.arms.proofs.Owned.{entry-valid}
use Rattle.arms.proofs.own.Goals as goal

pub asked-requires : goal.asked-requires
asked-requires c =
    (rw c.statement_of-t.ensures (entry-valid _ c.requires.held c.requires.well_formed _ c.loop-s-test.true), c.requires.variables_in_bounds.0)
