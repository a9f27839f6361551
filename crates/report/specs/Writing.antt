-- Proof devices: what the contracts of the functions that put the output together ask. No sentence of document 01 stands here.
use Rattle.std.specs.Prelude.{List, ◌++◌, ℕ, ◌+◌, ◌≤◌, length}
use Rattle.marks.specs.Reading.{Taken}
use Rattle.marks.specs.declared.Mark.{Mark}
use Rattle.report.specs.Report.{counts_line, verdict_lines}

-- the text u lists marks, each has a verdict in vs, and their lines have room from `at` on
pub record VerdictsFit (u vs : List ℕ) (at room : ℕ) : Type 0 where
  pub ms : List Mark
  pub taken : Taken u ms
  pub judged : length ms ≤ length vs
  pub fits : at + length (verdict_lines ms vs) ≤ room

-- the same of a whole report at the front of the lent bytes: the counts, the verdicts and the new text w
pub record ReportFits (u vs w : List ℕ) (count accepted room : ℕ) : Type 0 where
  pub ms : List Mark
  pub taken : Taken u ms
  pub judged : length ms ≤ length vs
  pub fits : length (counts_line count accepted ++ (verdict_lines ms vs ++ w)) ≤ room
