-- `graph::Edges::onto` meets its contract. All steps lead into the set where none leads out of it.
-- Assumes nothing.
use Rattle.bits.specs.Row.{member}
use Rattle.graph.proofs.Walk.{met-onto}
use Rattle.graph.proofs.Edges.onto.Goals as goal

pub returns : goal.returns
returns c = met-onto _ (member c.args.set.now) _ _ _ c.meets.ensures
