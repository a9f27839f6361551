-- What `review` answers, and what it leaves in the lent table, for every program text, conditions text and table.
use Rattle.std.specs.Prelude.{◌≡◌, Bool, true, ◌↔◌, List, ℕ, ◌+◌, ◌*◌, ◌≤◌, ◌<◌, length, get_or, Result, Ok, Err}
use Rattle.language.specs.declared.Statement.{Statement}
use Rattle.program.specs.Program.{Taken}
use Rattle.bits.specs.Row.{bit}
use Rattle.condition.specs.Condition as condition
use Rattle.condition.specs.Condition.{Condition}
use Rattle.truth.specs.Truth.{Sat}
use Rattle.table.specs.Table.{part_words}
use Rattle.table.specs.Summary.{Counts}
use Rattle.sharing.specs.Sharing.{most_lines, most_tables, part, number_of, firsts, parts_of}
use Rattle.review_reader.specs.Reading as reading
use Rattle.review_reader.specs.declared.Refusal as reading-refusal
use Rattle.calls.specs.Refusals.{CallRefused, number_of as number_of_refusal}
use Rattle.calls.specs.declared.Refusal.{Refusal}
use Rattle.review.specs.declared.Reviewed.{Reviewed}

-- "The lent table has 512 words, else refusal 1": as many tables as there can be
abbrev pub review_words : ℕ
review_words = most_tables * part_words

-- 1, then 2 to 5; "16 .. after the program is taken and before the lines are read; 17 .. after them": the number of the first that applies
abbrev pub ReviewRefused : List ℕ → List ℕ → List ℕ → ℕ → Type 0
ReviewRefused t u table n = CallRefused (length table < review_words) (review_words ≤ length table) t (reading.Refused u) reading.number n

-- what is told beside the answer, an entry for each line there can be: the lines' tables, counted from 0, their parts, how many
-- statements satisfy them, and the first
pub record Told : Type 0 where
  pub tables : List ℕ
  pub parts : List ℕ
  pub satisfied : List ℕ
  pub first : List ℕ

-- "Each condition points to its table and reads as it would by itself": of the line c, where the tables are those of ds
pub record LineTold (P : List Statement) (ds : List Condition) (c : Condition) (table parts satisfied first : ℕ) : Type 0 where
  pub points : table ≡ number_of ds c
  pub counted : parts ≡ length (condition.parts c)
  pub truth : ℕ → Bool
  pub decides : (s : ℕ) → (truth s ≡ true) ↔ ((s < length P) × Sat P c s)
  pub counts : Counts truth (part_words * 64) satisfied first

-- n entries of each, and zeros from `lines` on
pub record Rest (told : Told) (n lines : ℕ) : Type 0 where
  pub sizes : (length told.tables ≡ n) × (length told.parts ≡ n) × (length told.satisfied ≡ n) × (length told.first ≡ n)
  pub zeros : (j : ℕ) → lines ≤ j → (get_or told.tables j 0 ≡ 0) × (get_or told.parts j 0 ≡ 0) × (get_or told.satisfied j 0 ≡ 0) × (get_or told.first j 0 ≡ 0)

-- none applies: the tables are those of the conditions cs over the program P
pub record ReviewFilled (t u old new : List ℕ) (tables lines : ℕ) (told : Told) : Type 0 where
  pub P : List Statement
  pub cs : List Condition
  pub room : review_words ≤ length old
  pub program : Taken t P
  pub conditions : reading.Taken u cs
  -- "the answer says how many tables were filled, which is the number of differing parts"
  pub filled : tables ≡ length (firsts (parts_of cs))
  pub counted : lines ≡ length cs
  pub same : length new ≡ length old
  -- "parts spelled alike get one table, filled in order of first ending"; its bits are those of a part's
  pub bits : (k : ℕ) → k < tables → (w b : ℕ) → w < part_words → b < 64
      → (bit (get_or new (part_words * k + w) 0) b ≡ true) ↔ ((w * 64 + b < length P) × Sat P (part (firsts (parts_of cs)) k) (w * 64 + b))
  -- "A finished call keeps all words .. beyond those it fills."
  pub kept : (m : ℕ) → part_words * tables ≤ m → get_or new m 0 ≡ get_or old m 0
  pub each : (j : ℕ) → j < lines
      → LineTold P (firsts (parts_of cs)) (part cs j) (get_or told.tables j 0) (get_or told.parts j 0) (get_or told.satisfied j 0) (get_or told.first j 0)
  pub rest : Rest told most_lines lines

-- what a finished call tells of each line
abbrev pub told_of : Reviewed → Told
told_of r = record { tables = r.table_of; parts = r.parts; satisfied = r.satisfied; first = r.first }

-- "A refused call answers only its number and keeps all lent memory."
abbrev pub ReviewAnswers : List ℕ → List ℕ → List ℕ → List ℕ → Result Reviewed (Refusal reading-refusal.Refusal) → Type 0
ReviewAnswers t u old new (Err r) = ReviewRefused t u old (number_of_refusal reading.number r) × (new ≡ old)
ReviewAnswers t u old new (Ok r) = ReviewFilled t u old new r.tables r.lines (told_of r)
