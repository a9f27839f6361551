use Rattle.language.specs.Spelling.{variables}
use Rattle.comparison.specs.Lines.{differences}
use Rattle.comparison.specs.Stepping.{pair_room}
use Rattle.statement_writer.proofs.Series.{Written}
use Rattle.comparison.proofs.differences.Given as goal

abbrev pub invariant-loop-x : goal.invariant-loop-x
invariant-loop-x l = Written (λ n. differences n l.a l.b) variables pair_room l.initial.out l.at l.out l.to l.x
