-- The numbers of a text's lines, and the first line that isn't spelled: over what a line holds, how that is spelled and which of it is valid.
use Rattle.std.specs.Prelude.{◌≡◌, List, ◌++◌, ℕ, ◌+◌, ◌<◌, min, length}
use Rattle.lines.specs.Lines.{text, AllValid, NoLine}

-- the number of the line at place s, counted from 1; lines beyond 4,294,967,295 are all given that number
abbrev pub most_line : ℕ
most_line = 4294967295

abbrev pub line_at : ℕ → ℕ
line_at s = min (s + 1) most_line

-- line n is the first that isn't spelled: the lines before it are those of the valid xs, and no valid value's line follows
pub record FirstMisspelled {A : Type 0} (spell : A → List ℕ) (Valid : A → Type 0) (t : List ℕ) (n : ℕ) : Type 0 where
  pub xs : List A
  pub rest : List ℕ
  pub lines : t ≡ text spell xs ++ rest
  pub valid : AllValid Valid xs
  pub more : 0 < length rest
  pub misspelled : NoLine spell Valid rest
  pub line : n ≡ line_at (length xs)
