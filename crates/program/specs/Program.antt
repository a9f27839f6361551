-- What a program is and what its text is: document 01, "The statement language".
use Rattle.std.specs.Prelude.{◌≡◌, List, ℕ, ◌+◌, ◌*◌, ◌/◌, ◌≤◌, ◌<◌, length, get_or}
use Rattle.lines.specs.Lines as lines
use Rattle.language.specs.Spelling.{spell, Valid}
use Rattle.language.specs.declared.Statement.{Statement}
use Rattle.language.specs.declared.Statement.TheVariants.{Read, Write, Assign, Branch, Skip}

-- "one statement a line, each line ended by byte 10"
abbrev pub text : List Statement → List ℕ
text P = lines.text spell P

abbrev pub AllValid : List Statement → Type 0
AllValid P = lines.AllValid Valid P

-- the text t is the lines of the valid statements P
abbrev pub Spells : List ℕ → List Statement → Type 0
Spells t P = lines.Spells spell Valid t P

-- "N is their count, 2 to 256" of document 01, "1,024 statements" of document 02
abbrev pub fewest : ℕ
fewest = 2

abbrev pub most : ℕ
most = 1024

abbrev pub Counted : List Statement → Type 0
Counted P = (fewest ≤ length P) × (length P ≤ most)

-- a line has room in this many bytes with its byte 10, and so the text of every program in this many: "new text 34,816 bytes" (document 02)
abbrev pub line_room : ℕ
line_room = 34

abbrev pub text_room : ℕ
text_room = most * line_room

-- a set of statements has a bit for each that there can be, so this many words of 64 bits: "64-bit words 4k to 4k+3"; the code's ROW_WORDS
abbrev pub row_words : ℕ
row_words = most / 64

-- the statement at place s: places count from 0, and statement n stands at place n - 1
abbrev pub at : List Statement → ℕ → Statement
at P s = get_or P s Skip

-- "`read X`: the first statement and no other. `write X`: the last and no other."
abbrev pub Inner : ℕ → ℕ → Type 0
Inner N s = (0 < s) × (s + 1 < N)

abbrev pub InPlace : ℕ → ℕ → Statement → Type 0
InPlace N s (Read x) = s ≡ 0
InPlace N s (Write x) = s + 1 ≡ N
InPlace N s (Assign x e) = Inner N s
InPlace N s (Branch x n m) = Inner N s
InPlace N s Skip = Inner N s

abbrev pub Placed : List Statement → Type 0
Placed P = (s : ℕ) → s < length P → InPlace (length P) s (at P s)

-- "n and m lie in 2 to N and may be equal"
abbrev pub IsTarget : ℕ → ℕ → Type 0
IsTarget N n = (2 ≤ n) × (n ≤ N)

abbrev pub Targets : ℕ → Statement → Type 0
Targets N (Read x) = Unit
Targets N (Write x) = Unit
Targets N (Assign x e) = Unit
Targets N (Branch x n m) = IsTarget N n × IsTarget N m
Targets N Skip = Unit

abbrev pub Aimed : List Statement → Type 0
Aimed P = (s : ℕ) → s < length P → Targets (length P) (at P s)

-- P is a program
pub record WellFormed (P : List Statement) : Type 0 where
  pub valid : AllValid P
  pub counted : Counted P
  pub placed : Placed P
  pub aimed : Aimed P

-- "A program is taken where none of 2 to 5 applies to its text"
pub record Taken (t : List ℕ) (P : List Statement) : Type 0 where
  pub lines : t ≡ text P
  pub program : WellFormed P
