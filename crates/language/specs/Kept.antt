-- The variables that the unit keeps from one pass to the next: document 02, Wish 2.
use Rattle.std.specs.Prelude.{List, ℕ, ◌+◌, ◌≤◌, ◌<◌, take, drop}

-- "keeps `i24` to `i31` from one pass to the next", the code's FIRST_KEPT and KEPT
abbrev pub first_kept : ℕ
first_kept = 24

abbrev pub kept_count : ℕ
kept_count = 8

abbrev pub Kept : ℕ → Type 0
Kept x = (first_kept ≤ x) × (x < first_kept + kept_count)

-- their values, of a value for each variable
abbrev pub kept_of : List ℕ → List ℕ
kept_of vs = take kept_count (drop first_kept vs)
