-- `heads` meets its contract. Assumes nothing.
use Rattle.trace.specs.Trace.{column_heads}
use Rattle.trace.proofs.heads.Goals as goal

pub returns : goal.returns
unfolding column_heads
returns c = c.word.ensures
