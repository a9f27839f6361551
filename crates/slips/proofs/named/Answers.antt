-- `named` meets its contract. Assumes nothing.
use mathlib.Core.Path.{◌∙◌}
use Rattle.slips.proofs.named.Goals as goal

pub returns-in-Spelled : goal.returns-in-Spelled
returns-in-Spelled c = c.spelled_slip.ensures ∙ rw c.in-Spelled.is

pub returns-in-Targets : goal.returns-in-Targets
returns-in-Targets c = rw c.in-Targets.is
