-- Which refusal a list of marks gets, and what it means that a line and that a list were read right.
use Rattle.std.specs.Prelude.{◌≡◌, List, ℕ, suc, ◌≤◌, ◌<◌, length, take, drop, Option, Some, None, Result, Ok, Err}
use Rattle.lines.specs.Lines as lines
use Rattle.marks.specs.Marks.{spell_mark, ValidMark, text, Spells, mark_at}
use Rattle.marks.specs.declared.Mark.{Mark}
use Rattle.marks.specs.declared.Refusal.{Refusal}
use Rattle.marks.specs.declared.Refusal.TheVariants.{Misspelled, LineCount}

-- `Some`: the valid mark r.0 has the line from `at` to r.1; `None`: no valid mark's line stands there
abbrev pub MarkLineRead : List ℕ → ℕ → Option (Mark × ℕ) → Type 0
MarkLineRead s at (Some r) = lines.LineOf spell_mark ValidMark s at r.0 r.1
MarkLineRead s at None = lines.NoLine spell_mark ValidMark (drop at s)

-- "Zero to 256 lines" of document 01, "marks 1,024 lines" of document 02
abbrev pub most : ℕ
most = 1024

-- "9: some line misspelled, or the last without its byte 10. 10: over 256 lines.", 1,024 by document 02
abbrev pub number : Refusal → ℕ
number Misspelled = 9
number LineCount = 10

-- the text t gets this refusal: it applies, and none before it does
abbrev pub Refused : List ℕ → Refusal → Type 0
Refused t Misspelled = (ms : List Mark) → Spells t ms → ⊥
Refused t LineCount = (ms : List Mark) × Spells t ms × (most < length ms)

-- "A .. list of marks [is taken] where neither 9 nor 10 does [apply]"
pub record Taken (t : List ℕ) (ms : List Mark) : Type 0 where
  pub spells : Spells t ms
  pub few : length ms ≤ most

-- document 02, Wish 4: "where in that text the line that spells it begins and ends". Line j, counted from 0, begins where those before it end, and
-- ends, its byte 10 included, where the next begins; at and beyond the number of marks both are the text's length
abbrev pub begin_of : List Mark → ℕ → ℕ
begin_of ms j = length (text (take j ms))

abbrev pub end_of : List Mark → ℕ → ℕ
end_of ms j = begin_of ms (suc j)

-- "the lines following without a gap from the first byte to the last"
pub record Lined (t : List ℕ) (ms : List Mark) : Type 0 where
  pub first : begin_of ms 0 ≡ 0
  pub line : (j : ℕ) → j < length ms → lines.LineOf spell_mark ValidMark t (begin_of ms j) (mark_at ms j) (end_of ms j)
  pub last : begin_of ms (length ms) ≡ length t

-- each answer, and what it says of the text: n is the number of marks, and each has its line
abbrev pub ListRead : List ℕ → Result ℕ Refusal → Type 0
ListRead t (Ok n) = (ms : List Mark) × Taken t ms × (n ≡ length ms) × Lined t ms
ListRead t (Err r) = Refused t r

-- the same for one line: where it begins and ends
abbrev pub SpanRead : List ℕ → ℕ → Result (ℕ × ℕ) Refusal → Type 0
SpanRead t j (Ok r) = (ms : List Mark) × Taken t ms × Lined t ms × (r.0 ≡ begin_of ms j) × (r.1 ≡ end_of ms j)
SpanRead t j (Err r) = Refused t r
