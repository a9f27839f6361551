use Rattle.review_tables.proofs.Filled.{SoFar}
use Rattle.review_tables.proofs.fill.Given as goal

abbrev pub invariant-loop-k : goal.invariant-loop-k
invariant-loop-k l = SoFar l.n l.rows l.codes l.flow l.text l.entries l.count l.initial.table l.table l.k
