-- A proof device: what is known of the program with the accepted marks made. No sentence of the documents stands here.
use Rattle.std.specs.Prelude.{◌≡◌, List, ℕ}
use Rattle.program.specs.Program.{WellFormed}
use Rattle.program.specs.Reading.{statements, Held}
use Rattle.program.specs.declared.Program.{Program}
use Rattle.marks.specs.declared.Mark.{Mark}
use Rattle.rewriting.specs.Verdicts.{Verdicts, accepted_count, Rewritten}
use Rattle.verdicts.specs.declared.Rewriting.{Rewriting}

-- r has p with the accepted of the marks ms made, and how many those are
pub record Round (p : Program) (ms : List Mark) (r : Rewriting) : Type 0 where
  pub vs : List ℕ
  pub judged : Verdicts (statements p) ms vs
  pub rewritten : Rewritten (statements p) ms vs (statements r.program)
  pub counted : r.accepted ≡ accepted_count ms vs
  pub held : Held r.program
  pub program : WellFormed (statements r.program)
  pub same : r.program.count ≡ p.count
