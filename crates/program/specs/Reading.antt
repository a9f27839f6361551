-- Which refusal a text gets, what the code's value of a program stands for, and what it means that a program was read right.
use Rattle.std.specs.Prelude.{◌≡◌, List, map, Option, Some, None, Result, Ok, Err, ℕ, ◌≤◌, length, take}
use Rattle.language.specs.declared.Statement.{Statement}
use Rattle.program.specs.Program.{Spells, Counted, Placed, Aimed, Taken, most}
use Rattle.encoding.specs.declared.Entry.{Entry}
use Rattle.encoding.specs.Encoding.{statement_in}
use Rattle.program.specs.declared.Program.{Program}
use Rattle.program.specs.declared.Refusal.{Refusal}
use Rattle.program.specs.declared.Refusal.TheVariants.{Misspelled, LineCount, Placement, Target}

-- "2: some line isn't spelled as above, or the last lacks its byte 10. 3: under 2 or over 256 lines [1,024 by document 02]. 4: `read` or `write` missing from
-- its place or standing elsewhere. 5: a target outside 2 to N."
abbrev pub number : Refusal → ℕ
number Misspelled = 2
number LineCount = 3
number Placement = 4
number Target = 5

-- the text t gets this refusal: it applies, and none before it does
abbrev pub Refused : List ℕ → Refusal → Type 0
Refused t Misspelled = (P : List Statement) → Spells t P → ⊥
Refused t LineCount = (P : List Statement) × Spells t P × (Counted P → ⊥)
Refused t Placement = (P : List Statement) × Spells t P × Counted P × (Placed P → ⊥)
Refused t Target = (P : List Statement) × Spells t P × Counted P × Placed P × (Aimed P → ⊥)

-- the statements that the code's value holds
abbrev pub statements : Program → List Statement
statements p = map statement_in (take p.count p.entries)

-- the value is whole: its array has room for `most` statements, and the count lies within
pub record Held (p : Program) : Type 0 where
  pub room : length p.entries ≡ most
  pub few : p.count ≤ most

-- the program that the text is taken as, or its refusal
abbrev pub ProgramRead : List ℕ → Result Program Refusal → Type 0
ProgramRead t (Ok p) = Taken t (statements p) × Held p
ProgramRead t (Err r) = Refused t r

-- the text t is that of n valid statements, of which the first `most` stand in es
pub record Kept (t : List ℕ) (n : ℕ) (es : List Entry) : Type 0 where
  pub P : List Statement
  pub spells : Spells t P
  pub counted : n ≡ length P
  pub kept : map statement_in (take n es) ≡ take most P
  pub room : length es ≡ most

-- what reading all lines tells: their number, unless one is misspelled
abbrev pub LinesRead : List ℕ → Option ℕ → List Entry → Type 0
LinesRead t (Some n) es = Kept t n es
LinesRead t None es = (P : List Statement) → Spells t P → ⊥
