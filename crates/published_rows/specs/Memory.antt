-- Proof devices: what it means that rows of published conditions are remembered. No sentence of document 01 stands here.
use Rattle.std.specs.Prelude.{◌≡◌, List, [], ℕ, ◌<◌, length, get_or}
use Rattle.language.specs.declared.Expression.TheVariants.{Single}
use Rattle.language.specs.declared.Statement.{Statement}
use Rattle.language.specs.declared.Statement.TheVariants.{Write, Assign}
use Rattle.codes.specs.Codes.{statement_code, code_words}
use Rattle.atoms.specs.Facts.{used_in}
use Rattle.table.specs.Known.{KnownIn}
use Rattle.marks.specs.declared.Mark.{Mark}
use Rattle.marks.specs.declared.Mark.TheVariants.{Rm, Rpl, Cse}
use Rattle.lockstep.specs.Rules.{IsBinary}
use Rattle.published_rows.specs.Rows.{RowFor}

-- a statement for a mark's published condition: those of different conditions differ, and none has the code of zeros, as an empty slot has
abbrev pub key_of : Mark → Statement
key_of (Rm n x e) = Write x
key_of (Rpl n x a) = Assign x (Single a)
key_of (Cse n t e) = Assign t e

-- but for a `cse` that fits nowhere
abbrev pub Keyed : Mark → Type 0
Keyed (Rm n x e) = Unit
Keyed (Rpl n x a) = Unit
Keyed (Cse n t e) = IsBinary e

abbrev pub key_words : Statement → List ℕ
key_words s = code_words (statement_code s)

-- the most rows that are remembered, the code's SLOTS
abbrev pub slots : ℕ
slots = 251

-- a row beside the key of a mark is that of its published condition, where variables count as used as U says
pub record Remembers (U : ℕ → ℕ → Type 0) (P : List Statement) (keys memory : List (List ℕ)) : Type 0 where
  pub many_keys : length keys ≡ slots
  pub many_rows : length memory ≡ slots
  pub right : (i : ℕ) → i < slots → (m : Mark) → Keyed m → get_or keys i [] ≡ key_words (key_of m) → RowFor U P m (get_or memory i [])

-- the same of every program that the facts and the graph are of, by the uses that the rows have
abbrev pub Remembering : ℕ → List ℕ → List (List ℕ) → List ℕ → List (List ℕ) → List (List ℕ) → Type 0
Remembering n rows codes flow keys memory = (P : List Statement) → KnownIn P n rows codes flow → Remembers (used_in rows) P keys memory
