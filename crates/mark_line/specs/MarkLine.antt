-- What `mark_line` answers, for every list's text and line.
use Rattle.std.specs.Prelude.{◌≡◌, List, ℕ, Result, Ok, Err}
use Rattle.marks.specs.Reading.{Refused, Taken, Lined, begin_of, end_of}
use Rattle.marks.specs.declared.Mark.{Mark}
use Rattle.marks.specs.declared.Refusal.{Refusal}

-- the list is taken: line j begins at b and ends, its byte 10 included, at e
pub record MarkLineFound (u : List ℕ) (j b e : ℕ) : Type 0 where
  pub ms : List Mark
  pub marks : Taken u ms
  pub lined : Lined u ms
  pub begins : b ≡ begin_of ms j
  pub ends : e ≡ end_of ms j

-- no memory is lent, so there is no refusal 1: "9 and 10", the first that applies
abbrev pub MarkLineAnswers : List ℕ → ℕ → Result (ℕ × ℕ) Refusal → Type 0
MarkLineAnswers u j (Ok r) = MarkLineFound u j r.0 r.1
MarkLineAnswers u j (Err r) = Refused u r
