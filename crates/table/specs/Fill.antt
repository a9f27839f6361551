-- Proof devices: how the table is filled, part after part, as the contracts of the functions within say it. No sentence of document 01
-- stands here.
use Rattle.std.specs.Prelude.{◌≡◌, List, ℕ, ◌+◌, ◌-◌, ◌*◌, ◌≤◌, ◌<◌, ltb, length, get_or, drop}
use Rattle.base.specs.Pick.{pick}
use Rattle.language.specs.declared.Statement.{Statement}
use Rattle.tokens.specs.Parsing.{found}
use Rattle.bits.specs.Row.{member}
use Rattle.labelling.specs.Labels.{Labelled}
use Rattle.condition.specs.Condition.{Condition, atom, unary, binary, parts}
use Rattle.condition.specs.Words.{unary_code, binary_code, code_in, left_in, start_in, Held}
use Rattle.condition.specs.Texts.{Taken}
use Rattle.atom_reader.specs.Parsing.{parse_atom}
use Rattle.truth.specs.Truth.{SatBy}
use Rattle.table.specs.Table.{part_words, row, part_at}
use Rattle.atoms.specs.Facts.{used_in}
use Rattle.table.specs.Known.{KnownIn}

-- the left operand's part, by the word w of part k: of a unary operator it is the part before
abbrev pub left_of : ℕ → ℕ → ℕ
left_of w k = pick (ltb (code_in w) 14) (k - 1) (left_in w)

-- what the word w tells of part k of the condition c with the text t
abbrev pub Tells : List ℕ → Condition → ℕ → ℕ → Condition → Type 0
Tells t c k w (atom a) = (code_in w ≡ 0) × (rest : List ℕ) × (parse_atom (drop (start_in w) t) ≡ found a rest)
Tells t c k w (unary o p) = (code_in w ≡ unary_code o) × (0 < k) × (part_at c (k - 1) ≡ p)
Tells t c k w (binary o p q) = (code_in w ≡ binary_code o) × (left_in w < k) × (part_at c (left_in w) ≡ p) × (part_at c (k - 1) ≡ q)

-- the rows of the parts before k are right, where variables count as used as U says
abbrev pub RowsRight : (ℕ → ℕ → Type 0) → List Statement → Condition → List ℕ → ℕ → Type 0
RowsRight U P c table k = (j : ℕ) → j < k → Labelled (length P) (member (row table j)) (SatBy U P (part_at c j))

-- part k can be filled
pub record PartReady (P : List Statement) (n : ℕ) (rows : List ℕ) (codes : List (List ℕ)) (flow t : List ℕ) (c : Condition) (w : ℕ) (table : List ℕ) (k : ℕ) : Type 0 where
  pub known : KnownIn P n rows codes flow
  pub room : part_words * k + part_words ≤ length table
  pub tells : Tells t c k w (part_at c k)
  pub filled : RowsRight (used_in rows) P c table k

-- the same of some program and condition
pub record SomeReady (n : ℕ) (rows : List ℕ) (codes : List (List ℕ)) (flow t : List ℕ) (w : ℕ) (table : List ℕ) (k : ℕ) : Type 0 where
  pub P : List Statement
  pub c : Condition
  pub ready : PartReady P n rows codes flow t c w table k

-- the text is taken as the condition c, and the first m of the words are those of its parts
pub record HeldOf (t : List ℕ) (c : Condition) (m : ℕ) (ws : List ℕ) : Type 0 where
  pub taken : Taken t c
  pub held : Held c m ws

pub record SomeHeld (t : List ℕ) (m : ℕ) (ws : List ℕ) : Type 0 where
  pub c : Condition
  pub held : HeldOf t c m ws

-- the table now holds the rows of all parts of c, and all words beyond them are kept
pub record TableOf (U : ℕ → ℕ → Type 0) (P : List Statement) (c : Condition) (old new : List ℕ) : Type 0 where
  pub same : length new ≡ length old
  pub rows : RowsRight U P c new (length (parts c))
  pub past : (m : ℕ) → part_words * length (parts c) ≤ m → get_or new m 0 ≡ get_or old m 0
