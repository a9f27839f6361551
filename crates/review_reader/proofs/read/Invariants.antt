use Rattle.review_reader.proofs.Walks.{Walk}
use lib.ListN.{length}
use Prim.Native.Nat.{◌-◌}
use Rattle.review_reader.proofs.read.Given as goal

abbrev pub invariant-loop-at : goal.invariant-loop-at
invariant-loop-at l = Walk l.text l.j l.at l.count l.entries l.links l.heads l.numbers l.counts

abbrev pub decreases-loop-at : goal.decreases-loop-at
decreases-loop-at l = length l.text - l.at
