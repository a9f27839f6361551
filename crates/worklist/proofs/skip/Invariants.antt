use mathlib.Core.Bool.{false}
use Rattle.bits.specs.Row.{member}
use Rattle.graph.proofs.Walk.{Passed}
use Rattle.worklist.proofs.skip.Given as goal

abbrev pub invariant-loop-k : goal.invariant-loop-k
invariant-loop-k l = Passed l.steps.link.now l.steps.to.now l.n (member l.set) false l.start l.k

abbrev pub decreases-loop-k : goal.decreases-loop-k
decreases-loop-k l = l.k
