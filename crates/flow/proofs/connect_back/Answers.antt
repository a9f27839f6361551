-- `flow::connect_back` meets its contract: what `connect` and `add_self_steps` ensure, joined.
-- Assumes nothing.
use Rattle.flow.proofs.Edges.{self-same}
use Rattle.flow.proofs.connect_back.Goals as goal

pub returns : goal.returns
returns c = self-same _ _ _ c.connect-count.ensures.steps _ _ c.add_self_steps.ensures
