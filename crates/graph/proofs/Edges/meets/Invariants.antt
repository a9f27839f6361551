use lib.ListN.{length, get_or}
use Rattle.bits.specs.Row.{member}
use Rattle.graph.proofs.Walk.{Passed}
use Rattle.graph.proofs.Edges.meets.Given as goal

abbrev pub invariant-loop-k : goal.invariant-loop-k
invariant-loop-k l = Passed l.self.link.now l.self.to.now (length l.self.head.now) (member l.set) l.want (get_or l.self.head.now l.s 0) l.k

abbrev pub decreases-loop-k : goal.decreases-loop-k
decreases-loop-k l = l.k
