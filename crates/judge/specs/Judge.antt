-- What `judge` answers, and what it leaves in the lent bytes, for every program text, list of marks and buffers.
use Rattle.std.specs.Prelude.{◌≡◌, ◌⊎◌, List, ℕ, ◌≤◌, ◌<◌, length, get_or, take, Result, Ok, Err}
use Rattle.language.specs.declared.Statement.{Statement}
use Rattle.statement_writer.specs.Writing.{Put}
use Rattle.program.specs.Program.{text, text_room, Taken}
use Rattle.marks.specs.Reading as marks
use Rattle.marks.specs.Reading.{Lined}
use Rattle.marks.specs.declared.Mark.{Mark}
use Rattle.rewriting.specs.Verdicts.{Verdicts, accepted_count, Rewritten}
use Rattle.demand.specs.Demand.{Demand3}
use Rattle.marks.specs.declared.Refusal as marks-refusal
use Rattle.calls.specs.Refusals.{CallRefused, number_of}
use Rattle.calls.specs.declared.Refusal.{Refusal}
use Rattle.judge.specs.declared.Judged.{Judged}

-- "1: .. verdicts under 256 bytes or new text under 8,704 bytes", by document 02 1,024 and 34,816: as many marks and lines as there can be
abbrev pub verdict_bytes : ℕ
verdict_bytes = marks.most

abbrev pub text_bytes : ℕ
text_bytes = text_room

abbrev pub Room : List ℕ → List ℕ → Type 0
Room vs w = (verdict_bytes ≤ length vs) × (text_bytes ≤ length w)

-- "Order: 1, .. then 2 to 5, then .. 9 and 10": the number of the first that applies
abbrev pub JudgeRefused : List ℕ → List ℕ → List ℕ → List ℕ → ℕ → Type 0
JudgeRefused t u vs w n = CallRefused ((length vs < verdict_bytes) ⊎ (length w < text_bytes)) (Room vs w) t (marks.Refused u) marks.number n

-- the bytes and the new text that were lent, and what the call leaves of them
pub record Lent : Type 0 where
  pub verdicts : List ℕ
  pub new : List ℕ

-- none applies: the marks ms are judged on the program P, and the accepted ones made
pub record JudgeFinished (t u : List ℕ) (o q : Lent) (count accepted bytes : ℕ) : Type 0 where
  pub P : List Statement
  pub ms : List Mark
  pub Q : List Statement
  pub room : Room o.verdicts o.new
  pub program : Taken t P
  pub marks : marks.Taken u ms
  -- document 02, Wish 4: each mark has its line, so byte j is the verdict of a named part of the text u
  pub lined : Lined u ms
  -- "The answer gives the number of marks, of accepted marks and of bytes of new text."
  pub counted : count ≡ length ms
  pub taken : accepted ≡ accepted_count ms q.verdicts
  -- "line j's verdict filling byte j, counted from 0"; "A finished call keeps all .. bytes beyond those it fills."
  pub judged : Verdicts P ms q.verdicts
  pub same : length q.verdicts ≡ length o.verdicts
  pub kept : (j : ℕ) → count ≤ j → get_or q.verdicts j 0 ≡ get_or o.verdicts j 0
  -- the new text is that of the rewritten program; it fits, and stands at the front of the lent bytes
  pub rewritten : Rewritten P ms q.verdicts Q
  pub fits : length (text Q) ≤ length o.new
  pub written : Put o.new 0 (text Q) q.new bytes
  -- demand 3, of the bytes that the host holds
  pub demand : Demand3 t u q.verdicts (take bytes q.new)

-- "A refused call answers only its number and keeps all lent memory."
abbrev pub JudgeAnswers : List ℕ → List ℕ → Lent → Lent → Result Judged (Refusal marks-refusal.Refusal) → Type 0
JudgeAnswers t u o q (Err r) = JudgeRefused t u o.verdicts o.new (number_of marks.number r) × (q ≡ o)
JudgeAnswers t u o q (Ok j) = JudgeFinished t u o q j.marks j.accepted j.bytes
