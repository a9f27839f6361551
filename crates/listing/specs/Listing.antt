-- The list of readers and writers: document 02, Wish 12.
use Rattle.std.specs.Prelude.{◌≡◌, true, ◌↔◌, List, ℕ, ◌+◌, ◌*◌, ◌≤◌, ◌<◌, length, get_or}
use Rattle.language.specs.Spelling.{variables}
use Rattle.language.specs.declared.Statement.{Statement}
use Rattle.program.specs.Program.{at, row_words}
use Rattle.bits.specs.Row.{member, row_of, count_below}
use Rattle.labelling.specs.Labels.{Labelled}
use Rattle.truth.specs.Truth.{Defines, Uses}

-- "Each set has a part's bits, variable v's in words 8v to 8v+3 and 8v+4 to 8v+7": the statements that define it, then those that use it
abbrev pub defined_row : List ℕ → ℕ → List ℕ
defined_row l v = row_of row_words l (2 * v)

abbrev pub used_row : List ℕ → ℕ → List ℕ
used_row l v = row_of row_words l (2 * v + 1)

-- "of 256 (fewer: refusal 1)", 2,048 by Wish 13: two sets for each variable, the code's LIST_WORDS
abbrev pub list_words : ℕ
list_words = row_words * (2 * variables)

-- "for every variable, the statements that define it and those that use it"; bits beyond N are 0, as a part's are. "The kept gears of
-- Wish 2 count as used at `write`" by what `Uses` says.
pub record ListOf (P : List Statement) (l : List ℕ) : Type 0 where
  pub room : list_words ≤ length l
  pub defined : (v : ℕ) → v < variables → Labelled (length P) (member (defined_row l v)) (λ s. Defines (at P s) v)
  pub used : (v : ℕ) → v < variables → Labelled (length P) (member (used_row l v)) (λ s. Uses (at P s) v)

-- "every bit of a changed statement, and no other, is written as in the list made afresh": in one set, to which a statement belongs where
-- `Has` says so, after P became Q. Each statement has one spelling, so one is changed where its text is. Past the last line nothing is.
pub record SetUpdated (P Q : List Statement) (Has : Statement → Type 0) (old new : List ℕ) : Type 0 where
  pub changed : (s : ℕ) → (at Q s ≡ at P s → ⊥) → (member new s ≡ true) ↔ Has (at Q s)
  pub kept : (s : ℕ) → at Q s ≡ at P s → member new s ≡ member old s

-- in all of them; the words behind a list are kept
pub record Updated (P Q : List Statement) (old new : List ℕ) : Type 0 where
  pub same : length new ≡ length old
  pub defined : (v : ℕ) → v < variables → SetUpdated P Q (λ i. Defines i v) (defined_row old v) (defined_row new v)
  pub used : (v : ℕ) → v < variables → SetUpdated P Q (λ i. Uses i v) (used_row old v) (used_row new v)
  pub past : (m : ℕ) → list_words ≤ m → get_or new m 0 ≡ get_or old m 0

-- "how many ones each set has": of all its bits, those beyond N too
abbrev pub ones : List ℕ → ℕ
ones row = count_below (member row) (row_words * 64)

-- "counted in the list as the call leaves it": of the list l, an entry for each variable
pub record Counted (l defined used : List ℕ) : Type 0 where
  pub sizes : (length defined ≡ variables) × (length used ≡ variables)
  pub of_defined : (v : ℕ) → v < variables → get_or defined v 0 ≡ ones (defined_row l v)
  pub of_used : (v : ℕ) → v < variables → get_or used v 0 ≡ ones (used_row l v)
