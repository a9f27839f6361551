use Rattle.language.specs.Kept.{kept_count}
use Rattle.statement_writer.proofs.Series.{Written}
use Rattle.answer_line.specs.AnswerLine.{spaced_values, spaced_room}
use Rattle.answer_line.proofs.spaced.Given as goal

abbrev pub invariant-loop-value : goal.invariant-loop-value
invariant-loop-value l = Written (λ n. spaced_values n l.kept) kept_count spaced_room l.initial.out l.at l.out l.to l.value-index
