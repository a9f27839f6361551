-- What the check program says of a refusal on standard error: whose mistake it is, and on which line of the program or of the list of marks.
use Rattle.std.specs.Prelude.{◌≡◌, List, [], ◌∷◌, ◌++◌, ℕ, ◌≤◌, ◌<◌, length}
use Rattle.statement_writer.specs.Writing.{Put}
use Rattle.language.specs.declared.Statement.{Statement}
use Rattle.program.specs.Program.{Taken}
use Rattle.marks.specs.Reading as marks
use Rattle.marks.specs.declared.Mark.{Mark}
use Rattle.refusal_line.specs.Blame.{Blamed}
use Rattle.desk.specs.Refusals.{refusal_words, refusal_room}
use Rattle.report.specs.Report.{Refuses}
use Rattle.report.specs.declared.Worded.{Worded}
use Rattle.report.specs.declared.Worded.TheVariants.{Written, Nothing, NoRoom}

-- the words of the refusal with number n, a line
unfoldable pub words_line : ℕ → ℕ → List ℕ
words_line n line = refusal_words n line ++ 10 ∷ []

-- the words of the refusal that applies to the program text t and the marks text u stand at the front of the lent bytes o, all others are
-- kept, and k is their number
pub record RefusalWorded (t u o q : List ℕ) (k : ℕ) : Type 0 where
  pub n : ℕ
  pub line : ℕ
  pub refuses : Refuses t u n
  pub blamed : Blamed t u n line
  pub fits : length (words_line n line) ≤ length o
  pub written : Put o 0 (words_line n line) q k

-- nothing is said of a program and a list that are both taken; too few bytes are kept as they are
abbrev pub Words : List ℕ → List ℕ → List ℕ → List ℕ → Worded → Type 0
Words t u o q (Written k) = RefusalWorded t u o q k
Words t u o q Nothing = (P : List Statement) × Taken t P × (ms : List Mark) × marks.Taken u ms × (q ≡ o)
Words t u o q NoRoom = (length o < refusal_room) × (q ≡ o)
