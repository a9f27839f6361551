use Rattle.condition_blame.proofs.Going.{Going}
use Rattle.condition_blame.proofs.stop.Given as goal

abbrev pub invariant-loop-at : goal.invariant-loop-at
invariant-loop-at l = Going l.text l.stack l.s l.at
