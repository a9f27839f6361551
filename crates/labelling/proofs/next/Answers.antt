-- `labelling::next` meets its contract: the preimage along the lists of the first n places.
-- Assumes nothing.
use Rattle.graph.proofs.Graphs.{heads-size}
use Rattle.labelling.proofs.next.Goals as goal

pub returns : goal.returns
returns c =
    rw (c.of.ensures.head, c.of.ensures.link, c.of.ensures.to, heads-size c.args.steps.now c.requires.steps_len.0 _ c.requires.steps_len.1) at c.preimage.ensures
