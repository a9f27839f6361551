-- A proof device: what it means that a mark was read from its line. No sentence of the documents stands here.
use Rattle.std.specs.Prelude.{◌≡◌, List, ℕ, ◌<◌, length}
use Rattle.marks.specs.Marks.{mark_at}
use Rattle.marks.specs.Reading.{Taken}
use Rattle.marks.specs.declared.Mark.{Mark}

-- m is the mark of line j of the list that the text u spells
pub record MarkOfLine (u : List ℕ) (j : ℕ) (m : Mark) : Type 0 where
  pub ms : List Mark
  pub taken : Taken u ms
  pub inside : j < length ms
  pub is : m ≡ mark_at ms j
