-- A path as it stands in lent words: the numbers of its statements, one a word. Place s is statement s + 1.
use Rattle.std.specs.Prelude.{◌≡◌, List, ℕ, zero, suc, ◌+◌, ◌≤◌, ◌<◌, length, get_or}
use Rattle.lassos.specs.Lassos.{place, Rest, any, turn}

-- the places ls stand from the word `at` on, and all other words are kept
pub record Told (at : ℕ) (ls old new : List ℕ) : Type 0 where
  pub same : length new ≡ length old
  pub words : (i : ℕ) → i < length ls → get_or new (at + i) 0 ≡ suc (place ls i)
  pub before : (i : ℕ) → i < at → get_or new i 0 ≡ get_or old i 0
  pub past : (i : ℕ) → at + length ls ≤ i → get_or new i 0 ≡ get_or old i 0

-- what an answer tells of the rest of a path: 0 for any steps that exist, else the word, counted from 1, to whose statement the last turns
-- back
abbrev pub rest_of : ℕ → Rest
rest_of zero = any
rest_of (suc t) = turn t
