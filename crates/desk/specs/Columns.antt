-- Columns of the programs' output: numbers, texts and values as bytes.
use Rattle.std.specs.Prelude.{List, ◌++◌, ℕ, ◌-◌, length, replicate}
use Rattle.base.specs.Bytes.{byte}
use Rattle.language.specs.Spelling.{digits}

-- the columns of a statement's number, and those of its text, in which the longest statement of a program has room
abbrev pub number_columns : ℕ
number_columns = 4

abbrev pub statement_columns : ℕ
statement_columns = 32

abbrev pub spaces : ℕ → List ℕ
spaces n = replicate n (byte " ")

-- the number n, right-aligned in w columns; one that is wider keeps its digits
unfoldable pub wide : ℕ → ℕ → List ℕ
wide w n = spaces (w - length (digits n)) ++ digits n

-- the text xs, filled with spaces to w columns; one that is wider keeps its bytes
unfoldable pub padded : ℕ → List ℕ → List ℕ
padded w xs = xs ++ spaces (w - length xs)
