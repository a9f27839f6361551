-- Which line of a list of marks a refusal is about.
use Rattle.std.specs.Prelude.{◌≡◌, List, ℕ}
use Rattle.line_number.specs.First as first
use Rattle.marks.specs.Marks.{spell_mark, ValidMark, Spells}
use Rattle.marks.specs.Reading.{Refused, Taken}
use Rattle.marks.specs.declared.Mark.{Mark}
use Rattle.marks.specs.declared.Refusal.{Refusal}
use Rattle.marks.specs.declared.Refusal.TheVariants.{Misspelled, LineCount}

-- line n is the first that isn't spelled as a mark
abbrev pub FirstMisspelled : List ℕ → ℕ → Type 0
FirstMisspelled u n = first.FirstMisspelled spell_mark ValidMark u n

-- the line told of any list: the first that isn't spelled; 0 where each is, however many there are
pub data LineTold (u : List ℕ) (n : ℕ) : Type 0 where
  misspelled : FirstMisspelled u n → LineTold u n
  none : (ms : List Mark) → Spells u ms → n ≡ 0 → LineTold u n

-- the refusal r of the list u is about line n; 0 is no line
abbrev pub Blames : List ℕ → Refusal → ℕ → Type 0
Blames u Misspelled n = FirstMisspelled u n
Blames u LineCount n = n ≡ 0

-- whatever refusal the list gets is about line n, which is 0 where it is taken
pub record Blamed (u : List ℕ) (n : ℕ) : Type 0 where
  pub about : (r : Refusal) → Refused u r → Blames u r n
  pub taken : (ms : List Mark) → Taken u ms → n ≡ 0
