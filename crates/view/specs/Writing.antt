-- Proof devices: what the contracts of the functions that put the view together ask. No sentence of document 01 stands here.
use Rattle.std.specs.Prelude.{◌≡◌, Bool, List, ℕ, ◌+◌, ◌-◌, ◌*◌, ◌≤◌, ◌<◌, length}
use Rattle.statement_writer.specs.Writing.{Put}
use Rattle.language.specs.declared.Statement.{Statement}
use Rattle.program.specs.Program.{most}
use Rattle.program.specs.Reading.{Held, statements}
use Rattle.program.specs.declared.Program.{Program}
use Rattle.bits.specs.Row.{member}
use Rattle.condition.specs.Condition.{Condition}
use Rattle.condition.specs.Texts as condition
use Rattle.condition.specs.Words as condition-words
use Rattle.tabulate.specs.Tabulate.{table_words}
use Rattle.desk.specs.Refusals.{refusal_text}
use Rattle.view.specs.View.{part_lines, columns, head_row, row as rowText, rows, tens, units, mark, view_text}
use Rattle.view.specs.declared.Row.{Row}
use Rattle.view.specs.declared.Row.TheVariants.{Tens, Units, Marks}

-- part k's truth at place s in the table: a part's words have a bit for each place
abbrev pub truth_in : List ℕ → ℕ → ℕ → Bool
truth_in table k s = member table (k * most + s)

-- the byte of part k in a row
abbrev pub byte_in : List ℕ → Row → ℕ → ℕ
byte_in table Tens = tens
byte_in table Units = units
byte_in table (Marks s) = λ k. mark (truth_in table k s)

-- a row's place is one that a program may have
abbrev pub Placed : Row → Type 0
Placed Tens = Unit
Placed Units = Unit
Placed (Marks s) = s < most

-- a table, and the number of its parts
pub record Tabled (table : List ℕ) (n : ℕ) : Type 0 where
  pub size : length table ≡ table_words
  pub some : 0 < n
  pub few : n ≤ condition.most_parts

-- one byte a part has room from `at` on
pub record ColumnsFit (table : List ℕ) (row : Row) (n at room : ℕ) : Type 0 where
  pub tabled : Tabled table n
  pub placed : Placed row
  pub fits : at + length (columns (byte_in table row) n) ≤ room

-- the same of a row of digits, and of a statement's row
pub record HeadFits (table : List ℕ) (row : Row) (n at room : ℕ) : Type 0 where
  pub tabled : Tabled table n
  pub placed : Placed row
  pub fits : at + length (head_row (byte_in table row) n) ≤ room

pub record RowFits (table : List ℕ) (n s : ℕ) (i : Statement) (at room : ℕ) : Type 0 where
  pub tabled : Tabled table n
  pub placed : s < most
  pub fits : at + length (rowText (truth_in table) n s i) ≤ room

-- the text u is that of a condition of n parts, with the words ws, whose lines have room from `at` on
pub record PartsFit (u ws : List ℕ) (n at room : ℕ) : Type 0 where
  pub c : Condition
  pub taken : condition.Taken u c
  pub held : condition-words.Held c n ws
  pub fits : at + length (part_lines c) ≤ room

-- the rows of the program p have room from `at` on
pub record RowsFit (p : Program) (table : List ℕ) (n at room : ℕ) : Type 0 where
  pub held : Held p
  pub tabled : Tabled table n
  pub fits : at + length (rows (truth_in table) n (statements p)) ≤ room

-- a whole view has room at the front of the lent bytes
pub record ViewFits (u ws table : List ℕ) (p : Program) (n satisfied first room : ℕ) : Type 0 where
  pub c : Condition
  pub taken : condition.Taken u c
  pub words : condition-words.Held c n ws
  pub held : Held p
  pub tabled : Tabled table n
  pub fits : length (view_text (statements p) c (truth_in table) satisfied first) ≤ room

-- the text of the refusal n, with the line or the byte that it is about
abbrev pub RefusalPut : ℕ → ℕ → List ℕ → List ℕ → ℕ → Type 0
RefusalPut n line o q next = (length (refusal_text n line) ≤ length o) × Put o 0 (refusal_text n line) q next
