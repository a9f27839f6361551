-- The table of a condition's parts: document 01, "Conditions", last paragraph.
use Rattle.std.specs.Prelude.{List, ℕ, ◌*◌, get_or}
use Rattle.program.specs.Program.{row_words}
use Rattle.bits.specs.Row.{member, row_of, Kept}
use Rattle.labelling.specs.Labels.{Labelled}
use Rattle.condition.specs.Condition.{Condition, atom, parts}
use Rattle.condition.specs.declared.Atom.TheVariants.{True}

-- "Part k, counted from 0, fills 64-bit words 4k to 4k+3 of the lent table"
abbrev pub part_words : ℕ
part_words = row_words

abbrev pub row : List ℕ → ℕ → List ℕ
row ws k = row_of part_words ws k

-- row k, of w words, now holds the places below n at which X is true; all other words are kept
pub record Written (w : ℕ) (old new : List ℕ) (k n : ℕ) (X : ℕ → Type 0) : Type 0 where
  pub kept : Kept old new (w * k) w
  pub labelled : Labelled n (member (row_of w new k)) X

-- part k of a condition; past its last part nothing is asked
abbrev pub part_at : Condition → ℕ → Condition
part_at c k = get_or (parts c) k (atom True)
