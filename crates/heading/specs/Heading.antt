-- What is printed before the steps: the refusal in words, or the counts of the marks and the line over the columns.
use Rattle.std.specs.Prelude.{◌≡◌, ◌⊎◌, List, [], ◌∷◌, ◌++◌, ℕ, ◌≤◌, ◌<◌, length}
use Rattle.base.specs.Bytes.{bytes}
use Rattle.statement_writer.specs.Writing.{Put}
use Rattle.run.specs.Run.{most_steps, budget_number}
use Rattle.judge.specs.Judge.{text_bytes, Lent, JudgeFinished}
use Rattle.report.specs.Report.{counts_line, Refuses}
use Rattle.desk.specs.Refusals.{refusal_text}
use Rattle.refusal_line.specs.Blame.{Blamed}
use Rattle.heading.specs.declared.Heading.{Heading}
use Rattle.heading.specs.declared.Heading.TheVariants.{Refused, Judged, NoRoom}

-- over the columns of two traces: the statements of both programs, and each variable whose values differ with its value in both
unfoldable pub column_heads : List ℕ
column_heads = bytes "   step  line  given                             rewritten                         differs  given        rewritten" ++ 10 ∷ []

-- the counts of the marks, and that line
unfoldable pub heading_text : ℕ → ℕ → List ℕ
heading_text count accepted = counts_line count accepted ++ column_heads

-- every refusal has room in this many bytes, and so have the counts with that line
abbrev pub heading_room : ℕ
heading_room = 160

-- "Order: .. 15, then 2 to 5, then .. 9 and 10": the number of the first that applies to the program text t and the marks text u
abbrev pub RefusedWith : List ℕ → List ℕ → ℕ → ℕ → Type 0
RefusedWith t u budget n = ((most_steps < budget) × (n ≡ budget_number)) ⊎ ((budget ≤ most_steps) × Refuses t u n)

-- the refusal stands at the front of the lent bytes o, all others are kept
pub record HeadRefused (t u : List ℕ) (budget : ℕ) (o q : List ℕ) (r : ℕ) : Type 0 where
  pub n : ℕ
  pub line : ℕ
  pub refused : RefusedWith t u budget n
  pub blamed : Blamed t u n line
  pub fits : length (refusal_text n line) ≤ length o
  pub put : Put o 0 (refusal_text n line) q r

-- the marks are judged, the rewritten program's text is at the front of the new one, and the counts with the line over the columns stand at the
-- front of o
pub record HeadJudged (t u : List ℕ) (budget : ℕ) (old new o q : List ℕ) (r bytes : ℕ) : Type 0 where
  pub count : ℕ
  pub accepted : ℕ
  pub lent : Lent
  pub left : Lent
  pub before : lent.new ≡ old
  pub after : left.new ≡ new
  pub allowed : budget ≤ most_steps
  pub judged : JudgeFinished t u lent left count accepted bytes
  pub fits : length (heading_text count accepted) ≤ length o
  pub put : Put o 0 (heading_text count accepted) q r

abbrev pub Heads : List ℕ → List ℕ → ℕ → List ℕ → List ℕ → List ℕ → List ℕ → Heading → Type 0
Heads t u budget old new o q (Refused r) = HeadRefused t u budget o q r × (new ≡ old)
Heads t u budget old new o q (Judged r bytes) = HeadJudged t u budget old new o q r bytes
Heads t u budget old new o q NoRoom = ((length o < heading_room) ⊎ (length old < text_bytes)) × (q ≡ o) × (new ≡ old)
