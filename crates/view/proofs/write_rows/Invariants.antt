use Rattle.view.proofs.Rows.{Inv}
use Rattle.view.proofs.write_rows.Given as goal

abbrev pub invariant-loop-s : goal.invariant-loop-s
invariant-loop-s l = Inv l.initial.out l.at l.table l.n l.entries l.count l.out l.to l.s
