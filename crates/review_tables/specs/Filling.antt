-- Proof devices: how the tables of a review are filled from its entries, and its lines counted. No sentence of a document stands here.
use Rattle.std.specs.Prelude.{◌≡◌, List, ℕ, ◌+◌, ◌*◌, ◌≤◌, ◌<◌, length, get_or}
use Rattle.language.specs.declared.Statement.{Statement}
use Rattle.bits.specs.Row.{member}
use Rattle.labelling.specs.Labels.{Labelled}
use Rattle.condition.specs.Condition.{Condition}
use Rattle.truth.specs.Truth.{SatBy}
use Rattle.table.specs.Table.{part_words, row}
use Rattle.atoms.specs.Facts.{used_in}
use Rattle.table.specs.Known.{KnownIn}
use Rattle.table.specs.Summary.{Counts}
use Rattle.sharing.specs.Sharing.{most_lines, part}
use Rattle.sharing.specs.Keys.{key_of, Numbered, Ordered}
use Rattle.keys.specs.Store.{key_in}
use Rattle.numbering.specs.Numbering.{Shares}

-- the rows of the first k of the conditions ds are right, where variables count as used as U says
abbrev pub RowsOf : (ℕ → ℕ → Type 0) → List Statement → List Condition → List ℕ → ℕ → Type 0
RowsOf U P ds table k = (j : ℕ) → j < k → Labelled (length P) (member (row table j)) (SatBy U P (part ds j))

-- table k can be filled: w is the entry of the condition that it is of
pub record EntryReady (P : List Statement) (n : ℕ) (rows : List ℕ) (codes : List (List ℕ)) (flow u : List ℕ) (ds : List Condition) (w : ℕ) (table : List ℕ) (k : ℕ) : Type 0 where
  pub known : KnownIn P n rows codes flow
  pub room : part_words * k + part_words ≤ length table
  pub inside : k < length ds
  pub numbered : Numbered ds
  pub ordered : Ordered ds
  pub key : key_in u w ≡ key_of ds (part ds k)
  pub filled : RowsOf (used_in rows) P ds table k

pub record SomeEntry (n : ℕ) (rows : List ℕ) (codes : List (List ℕ)) (flow u : List ℕ) (w : ℕ) (table : List ℕ) (k : ℕ) : Type 0 where
  pub P : List Statement
  pub ds : List Condition
  pub ready : EntryReady P n rows codes flow u ds w table k

pub record SomeShares (u entries : List ℕ) (count : ℕ) : Type 0 where
  pub ps : List Condition
  pub shares : Shares u ps entries count
  pub many : count ≤ length entries

-- the table holds the rows of the conditions ds, and all words beyond them are kept
pub record TablesOf (U : ℕ → ℕ → Type 0) (P : List Statement) (ds : List Condition) (old new : List ℕ) : Type 0 where
  pub same : length new ≡ length old
  pub rows : RowsOf U P ds new (length ds)
  pub past : (m : ℕ) → part_words * length ds ≤ m → get_or new m 0 ≡ get_or old m 0

-- each of the first `lines` numbers is one of a row in the table
pub record Rowed (table numbers : List ℕ) (lines : ℕ) : Type 0 where
  pub few : lines ≤ length numbers
  pub size : length numbers ≡ most_lines
  pub inside : (j : ℕ) → j < lines → part_words * get_or numbers j 0 + part_words ≤ length table

-- the first k lines are counted, and zeros follow
pub record CountedLines (table numbers satisfied first : List ℕ) (k : ℕ) : Type 0 where
  pub size : length satisfied ≡ most_lines
  pub size_first : length first ≡ most_lines
  pub counts : (j : ℕ) → j < k → Counts (member (row table (get_or numbers j 0))) (part_words * 64) (get_or satisfied j 0) (get_or first j 0)
  pub past : (j : ℕ) → k ≤ j → get_or satisfied j 0 ≡ 0
  pub past_first : (j : ℕ) → k ≤ j → get_or first j 0 ≡ 0
