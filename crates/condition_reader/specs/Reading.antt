-- Which refusal a condition's text gets, and what the reader answers.
use Rattle.std.specs.Prelude.{List, ℕ, ◌≤◌, ◌<◌, length, Result, Ok, Err}
use Rattle.condition.specs.Condition.{Condition, parts}
use Rattle.condition.specs.Texts.{most_bytes, most_parts, Spells, Taken}
use Rattle.condition.specs.Words.{Held}
use Rattle.condition_reader.specs.declared.Refusal.{Refusal}
use Rattle.condition_reader.specs.declared.Refusal.TheVariants.{Length, Misspelled, PartCount}
use Rattle.condition_reader.specs.declared.Reading.{Reading}

-- "6: longer than 1,024 bytes. 7: misspelled. 8: over 64 parts."
abbrev pub number : Refusal → ℕ
number Length = 6
number Misspelled = 7
number PartCount = 8

-- the text gets this refusal: it applies, and none before it does
abbrev pub Refused : List ℕ → Refusal → Type 0
Refused t Length = most_bytes < length t
Refused t Misspelled = (length t ≤ most_bytes) × ((c : Condition) → Spells t c → ⊥)
Refused t PartCount = (length t ≤ most_bytes) × (c : Condition) × Spells t c × (most_parts < length (parts c))

-- what is read of the text: the condition's parts, or why it is refused
abbrev pub ConditionRead : List ℕ → Result Reading Refusal → Type 0
ConditionRead t (Ok r) = (c : Condition) × Taken t c × Held c r.count r.words
ConditionRead t (Err r) = Refused t r
