use Rattle.stages.specs.Looking.{StandsNowhere}
use Rattle.stages.proofs.find.Given as goal

abbrev pub invariant-loop-k : goal.invariant-loop-k
invariant-loop-k l = StandsNowhere l.stages l.name l.k
