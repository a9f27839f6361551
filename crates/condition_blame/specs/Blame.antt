-- Which byte of a condition's text its refusal is about.
use Rattle.std.specs.Prelude.{◌≡◌, List, ℕ, ◌≤◌, ◌<◌, length}
use Rattle.condition.specs.Texts.{most_bytes}
use Rattle.viable.specs.Begins.{ByteTold}

-- "6: longer than 1,024 bytes" is about no byte, whatever the text holds: 0; else the byte at which the reading stops, for "7: misspelled",
-- and 0 where the text spells a condition
pub data Blamed (t : List ℕ) (n : ℕ) : Type 0 where
  long : most_bytes < length t → n ≡ 0 → Blamed t n
  short : length t ≤ most_bytes → ByteTold t n → Blamed t n
