-- What `go_back` answers, and what it leaves in the lent text, for every bytes of stages, name and text.
use Rattle.std.specs.Prelude.{◌≡◌, ◌⊎◌, List, ℕ, ◌≤◌, ◌<◌, length, Result, Ok, Err}
use Rattle.statement_writer.specs.Writing.{Put}
use Rattle.program.specs.Program.{text_room}
use Rattle.calls.specs.Refusals.{room_number}
use Rattle.stage_names.specs.Names.{name_number, ValidName}
use Rattle.stages.specs.Stages.{stage_bytes, Holds}
use Rattle.stages.specs.Choice.{Unknown}
use Rattle.go_back.specs.declared.Refusal.{Refusal}
use Rattle.go_back.specs.declared.Refusal.TheVariants as refusal

-- "70,000 bytes that the caller lends, else refusal 1", 280,000 by Wish 13; the text that is returned is lent as a new text is
abbrev pub text_bytes : ℕ
text_bytes = text_room

abbrev pub Room : List ℕ → List ℕ → Type 0
Room mem o = (stage_bytes ≤ length mem) × (text_bytes ≤ length o)

-- "25 for returning to a name that no place holds"
abbrev pub unknown_number : ℕ
unknown_number = 25

abbrev pub number : Refusal → ℕ
number refusal.Room = room_number
number refusal.Misnamed = name_number
number refusal.Unknown = unknown_number

-- 1, then 23, then 25: the number of the first that applies
abbrev pub ReturnRefused : List ℕ → List ℕ → List ℕ → ℕ → Type 0
ReturnRefused mem n o r =
    (((length mem < stage_bytes) ⊎ (length o < text_bytes)) × (r ≡ room_number))
    ⊎ ((Room mem o × (ValidName n → ⊥) × (r ≡ name_number))
    ⊎ (Room mem o × ValidName n × Unknown mem n × (r ≡ unknown_number)))

-- none applies: "returning gives the kept program's text", at the front of the lent bytes o; all others are as they were
pub record ReturnFinished (mem n o q : List ℕ) (bytes : ℕ) : Type 0 where
  pub t : List ℕ
  pub k : ℕ
  pub room : Room mem o
  pub valid : ValidName n
  pub holds : Holds mem k n t
  pub fits : length t ≤ length o
  pub written : Put o 0 t q bytes

-- "A refused call answers only its number and keeps all lent memory."
abbrev pub ReturnAnswers : List ℕ → List ℕ → List ℕ → List ℕ → Result ℕ Refusal → Type 0
ReturnAnswers mem n o q (Ok b) = ReturnFinished mem n o q b
ReturnAnswers mem n o q (Err r) = ReturnRefused mem n o (number r) × (q ≡ o)
