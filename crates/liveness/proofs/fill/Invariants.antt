use Rattle.language.specs.Spelling.{variables}
use Rattle.liveness.proofs.Rows.{SoFar}
use Rattle.liveness.proofs.fill.Given as goal

abbrev pub invariant-loop-x : goal.invariant-loop-x
invariant-loop-x l = SoFar l.n l.rows l.codes l.flow l.live l.x
