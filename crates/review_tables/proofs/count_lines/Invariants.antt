use Rattle.review_tables.specs.Filling.{CountedLines}
use Rattle.review_tables.proofs.count_lines.Given as goal

abbrev pub invariant-loop-j : goal.invariant-loop-j
invariant-loop-j l = CountedLines l.table l.numbers l.satisfied l.first l.j
