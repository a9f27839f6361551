-- `told` meets its contract. Assumes nothing.
use Rattle.side_by_side.proofs.told.Goals as goal

pub returns : goal.returns
returns c = rw c.at_stage-next.ensures
