use Rattle.walks.proofs.Steps.{Nearing}
use lib.ListN.{length, get_or}
use Rattle.walks.proofs.nearest.Given as goal

abbrev pub invariant-loop-k : goal.invariant-loop-k
invariant-loop-k l = Nearing l.steps.link.now l.steps.to.now (length l.steps.head.now) l.numbers (get_or l.steps.head.now l.s 0) l.k l.best

abbrev pub decreases-loop-k : goal.decreases-loop-k
decreases-loop-k l = l.k
