-- Proof devices: what the contracts of the functions that find the row of a published condition say. No sentence of document 01 stands
-- here.
use Rattle.std.specs.Prelude.{◌≡◌, List, ℕ, ◌*◌, ◌≤◌, length}
use Rattle.language.specs.declared.Statement.{Statement}
use Rattle.bits.specs.Row.{member}
use Rattle.labelling.specs.Labels.{Labelled}
use Rattle.condition.specs.Condition.{Condition, parts}
use Rattle.condition.specs.Texts.{Taken}
use Rattle.truth.specs.Truth.{SatBy}
use Rattle.table.specs.Table.{part_words}
use Rattle.marks.specs.declared.Mark.{Mark}
use Rattle.lockstep.specs.Rules.{published}
use Rattle.published.specs.Published.{published_most}

-- the words of a published condition's parts, the code's PUBLISHED_WORDS
abbrev pub published_words : ℕ
published_words = part_words * published_most

-- the text is taken as a condition of at most twelve parts
pub record SmallTaken (t : List ℕ) : Type 0 where
  pub c : Condition
  pub taken : Taken t c
  pub small : part_words * length (parts c) ≤ published_words

-- the row has the places of P at which the condition with the text t is true, where variables count as used as U says
pub record RowOf (U : ℕ → ℕ → Type 0) (P : List Statement) (t row : List ℕ) : Type 0 where
  pub room : length row ≡ part_words
  pub labelled : (c : Condition) → Taken t c → Labelled (length P) (member row) (SatBy U P c)

-- the row has the places of P at which the mark's published condition is true
abbrev pub RowFor : (ℕ → ℕ → Type 0) → List Statement → Mark → List ℕ → Type 0
RowFor U P m row = Labelled (length P) (member row) (SatBy U P (published m)) × (length row ≡ part_words)
