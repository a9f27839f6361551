-- `graph::add` meets its contract. One more edge is one law, `added`.
-- Assumes nothing.
use Rattle.graph.proofs.Graphs.{added}
use Rattle.graph.proofs.add.Goals as goal

pub returns : goal.returns
returns c = added _ _ _ _ c.requires
