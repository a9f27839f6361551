use Rattle.language.specs.Spelling.{variables}
use Rattle.statement_writer.proofs.Series.{Written}
use Rattle.outcome.specs.Outcome.{value_lines, value_line_room}
use Rattle.outcome.proofs.value_lines.Given as goal

abbrev pub invariant-loop-x : goal.invariant-loop-x
invariant-loop-x l = Written (λ n. value_lines n l.values) variables value_line_room l.initial.out l.at l.out l.to l.x
