-- What `tabulate` answers, and what it leaves in the lent table, for every program text, condition text and table.
use Rattle.std.specs.Prelude.{◌≡◌, Bool, true, ◌↔◌, List, ℕ, ◌+◌, ◌*◌, ◌≤◌, ◌<◌, length, get_or, Result, Ok, Err}
use Rattle.language.specs.declared.Statement.{Statement}
use Rattle.program.specs.Program.{Taken}
use Rattle.bits.specs.Row.{bit}
use Rattle.condition.specs.Condition.{Condition, parts}
use Rattle.truth.specs.Truth.{Sat}
use Rattle.condition.specs.Texts as condition
use Rattle.condition_reader.specs.Reading as condition-reading
use Rattle.condition_reader.specs.declared.Refusal as condition-refusal
use Rattle.table.specs.Table.{part_words, part_at}
use Rattle.table.specs.Summary.{Counts}
use Rattle.calls.specs.Refusals.{CallRefused, number_of}
use Rattle.calls.specs.declared.Refusal.{Refusal}
use Rattle.tabulate.specs.declared.Filled.{Filled}

-- "1: table under 256 words", by document 02 1,024: as many parts as a condition can have
abbrev pub table_words : ℕ
table_words = condition.most_parts * part_words

-- "Order: 1, .. then 2 to 5, then 6 to 8": the number of the first that applies
abbrev pub TabulateRefused : List ℕ → List ℕ → List ℕ → ℕ → Type 0
TabulateRefused t u table n = CallRefused (length table < table_words) (table_words ≤ length table) t (condition-reading.Refused u) condition-reading.number n

-- none applies: the table holds the parts of the condition c over the program P
pub record TabulateFilled (t u old new : List ℕ) (count satisfied first : ℕ) : Type 0 where
  pub P : List Statement
  pub c : Condition
  pub room : table_words ≤ length old
  pub program : Taken t P
  pub condition : condition.Taken u c
  pub counted : count ≡ length (parts c)
  pub same : length new ≡ length old
  -- "bit b of word w of those four is statement 64w+b+1; bits beyond N are 0"
  pub bits : (k : ℕ) → k < count → (w b : ℕ) → w < part_words → b < 64
      → (bit (get_or new (part_words * k + w) 0) b ≡ true) ↔ ((w * 64 + b < length P) × Sat P (part_at c k) (w * 64 + b))
  -- "A finished call keeps all words .. beyond those it fills."
  pub kept : (m : ℕ) → part_words * count ≤ m → get_or new m 0 ≡ get_or old m 0
  -- "for the whole condition how many statements satisfy it and the first of them (0 if none)"
  pub truth : ℕ → Bool
  pub decides : (s : ℕ) → (truth s ≡ true) ↔ ((s < length P) × Sat P c s)
  pub counts : Counts truth (part_words * 64) satisfied first

-- "A refused call answers only its number and keeps all lent memory."
abbrev pub TabulateAnswers : List ℕ → List ℕ → List ℕ → List ℕ → Result Filled (Refusal condition-refusal.Refusal) → Type 0
TabulateAnswers t u old new (Err r) = TabulateRefused t u old (number_of condition-reading.number r) × (new ≡ old)
TabulateAnswers t u old new (Ok f) = TabulateFilled t u old new f.parts f.satisfied f.first
