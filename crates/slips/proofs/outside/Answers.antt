-- `outside` meets its contract. Assumes nothing.
use Rattle.slips.proofs.outside.Goals as goal

pub returns-in-Spelled : goal.returns-in-Spelled
returns-in-Spelled c = rw (c.largest_behind.ensures, c.in-Spelled.is)

pub returns-in-Targets : goal.returns-in-Targets
returns-in-Targets c = rw c.in-Targets.is
