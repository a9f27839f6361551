-- Where the reading of a condition's text stops: document 01, "7: misspelled". Length and parts, refusals 6 and 8, have no say here.
use Rattle.std.specs.Prelude.{◌≡◌, List, ◌++◌, ℕ, ◌+◌, ◌≤◌, ◌<◌, length, take}
use Rattle.condition.specs.Condition.{Condition, spell_condition, ValidCondition}
use Rattle.condition.specs.Texts.{Spells}

-- the text t begins the spelling of some valid condition
pub record Begins (t : List ℕ) : Type 0 where
  pub condition : Condition
  pub rest : List ℕ
  pub valid : ValidCondition condition
  pub spelling : spell_condition condition ≡ t ++ rest

-- the text t, which spells no condition, is read up to byte n, counted from 1: what stands before it begins some spelling, and with that
-- byte it begins none; where all of the text begins a spelling, n is the byte that would follow
pub record StopsAt (t : List ℕ) (n : ℕ) : Type 0 where
  pub read : ℕ
  pub byte : n ≡ read + 1
  pub within : read ≤ length t
  pub begins : Begins (take read t)
  pub stops : read < length t → Begins (take (read + 1) t) → ⊥
  pub misspelled : (c : Condition) → Spells t c → ⊥

-- the byte told of any text; 0 where it spells a condition
pub data ByteTold (t : List ℕ) (n : ℕ) : Type 0 where
  stops : StopsAt t n → ByteTold t n
  spelled : (c : Condition) → Spells t c → n ≡ 0 → ByteTold t n
