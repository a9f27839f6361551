use Rattle.table.proofs.Tables.{SoFar}
use Rattle.table.proofs.fill.Given as goal

abbrev pub invariant-loop-k : goal.invariant-loop-k
invariant-loop-k l = SoFar l.n l.rows l.codes l.flow l.text l.parts l.words l.initial.table l.table l.k
