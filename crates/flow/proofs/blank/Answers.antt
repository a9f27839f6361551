-- `flow::blank` meets its contract. Assumes nothing.
use Rattle.bits.proofs.Rows.{zeros}
use Rattle.flow.specs.FlowOf.{flow_entries}
use Rattle.flow.proofs.blank.Goals as goal

pub returns : goal.returns
returns c = zeros flow_entries
