-- `at_stage` meets its contract: all numbers are 0. Assumes nothing.
use Rattle.side_by_side.proofs.at_stage.Goals as goal

pub returns : goal.returns
returns c = rw (c.no_values-none.ensures, c.blank-live.ensures)
