-- Which texts are conditions, and how large a condition may be. Document 01, "Conditions".
use Rattle.std.specs.Prelude.{◌≡◌, List, ℕ, ◌≤◌, length}
use Rattle.condition.specs.Condition.{Condition, spell_condition, ValidCondition, parts}

-- "longer than 1,024 bytes", "over 64 parts"
abbrev pub most_bytes : ℕ
most_bytes = 1024

abbrev pub most_parts : ℕ
most_parts = 64

-- the text t is the spelling of the valid condition c
pub record Spells (t : List ℕ) (c : Condition) : Type 0 where
  pub spelling : t ≡ spell_condition c
  pub valid : ValidCondition c

-- the text is taken as the condition c
pub record Taken (t : List ℕ) (c : Condition) : Type 0 where
  pub short : length t ≤ most_bytes
  pub spells : Spells t c
  pub few : length (parts c) ≤ most_parts
