use Rattle.explain.proofs.Parts.{Looking}
use Rattle.explain.proofs.below_negations.Given as goal

abbrev pub invariant-loop-j : goal.invariant-loop-j
invariant-loop-j l = Looking l.parts l.words l.k l.j

abbrev pub decreases-loop-j : goal.decreases-loop-j
decreases-loop-j l = l.j
