use Rattle.listing.proofs.Counts.{OnesBelow}
use Rattle.listing.proofs.ones_from.Given as goal

abbrev pub invariant-loop-v : goal.invariant-loop-v
invariant-loop-v l = OnesBelow l.first l.list l.counts l.v
