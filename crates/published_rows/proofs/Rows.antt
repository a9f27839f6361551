-- From a text that is taken as a condition to the row of the places at which it is true. Assumes nothing.
use mathlib.Core.Path.{◌≡◌, sym, ◌∙◌, subst}
use mathlib.Core.List.{List}
use Prim.Native.Nat.{ℕ, ◌+◌, ◌-◌, ◌*◌, ◌≤◌}
use native.Mathlib.Omega.{arith}
use lib.ListN.{length, drop, length-drop}
use lib.Seq.{length-take-le}
use Rattle.language.specs.declared.Statement.{Statement}
use Rattle.bits.specs.Row.{member}
use Rattle.labelling.specs.Labels.{Labelled}
use Rattle.std.specs.Prelude.{Result, Ok, Err}
use Rattle.condition_reader.specs.declared.Reading.{Reading}
use Rattle.condition_reader.specs.declared.Refusal.{Refusal}
use Rattle.condition.specs.Condition.{Condition, parts, spell_condition}
use Rattle.condition.specs.Texts.{Taken}
use Rattle.condition_reader.specs.Reading.{ConditionRead}
use Rattle.truth.specs.Truth.{SatBy}
use Rattle.condition_reader.proofs.Spelling.{condition-unique}
use Rattle.condition_reader.proofs.Unique.{taken-unique, taken_refused}
use Rattle.atoms.specs.Facts.{used_in}
use Rattle.table.specs.Table.{part_words, row}
use Rattle.table.specs.Known.{KnownBy}
use Rattle.table.specs.Fill.{HeldOf, TableOf}
use Rattle.table.proofs.Whole.{held-some, whole-labelled}
use Rattle.table.proofs.By.{labelled_by}
use Rattle.marks.specs.Marks.{ValidMark}
use Rattle.marks.specs.declared.Mark.{Mark}
use Rattle.lockstep.specs.Rules.{published}
use Rattle.published.proofs.Published.{published-parts, published-taken}
use Rattle.published_rows.specs.Rows.{published_words, SmallTaken, RowOf, RowFor}

-- the text of a published condition is taken as it
pub published-small : (m : Mark) → ValidMark m → (t : List ℕ) → t ≡ spell_condition (published m) → SmallTaken t
published-small m v t e =
    let n = published-parts m in
    record { c = published m; taken = subst (λ (s : List ℕ). Taken s (published m)) (sym e) (published-taken m v); small = omega arith }

pub published-labelled :
    (m : Mark) → ValidMark m → (t : List ℕ) → t ≡ spell_condition (published m) → {U : ℕ → ℕ → Type 0} {P : List Statement} {r : List ℕ} → RowOf U P t r → RowFor U P m r
unfolding published-small
published-labelled m v t e r = (r.labelled (published m) (published-small m v t e).taken, r.room)

-- the row by whatever uses the facts are of
pub row_by :
    {U : ℕ → ℕ → Type 0} {P : List Statement} {n : ℕ} {rows : List ℕ} {codes : List (List ℕ)} {flow : List ℕ} → KnownBy U P n rows codes flow
    → (m : Mark) → ValidMark m → (r : List ℕ) → RowFor (used_in rows) P m r → RowFor U P m r
row_by x m v r l = (labelled_by x (published m) (published-taken m v).spells.valid l.0, l.1)

module _ {t : List ℕ} (small : SmallTaken t) where
  pub read_held : (r : Reading) → ConditionRead t (Ok r) → HeldOf t small.c r.count r.words
  read_held r h = let e : h.0 ≡ small.c = taken-unique h.1 small.taken in record { taken = small.taken; held = rw e at h.2 }

  pub not-refused : (f : Refusal) → ConditionRead t (Err f) → ⊥
  not-refused f h = taken_refused small.taken f h

  module _ {m : ℕ} {ws : List ℕ} (h : HeldOf t small.c m ws) where
    pub held-room : part_words * m ≤ published_words
    held-room = let n = h.held.counted in let l = small.small in omega arith

    last_room : (new : List ℕ) → published_words ≤ length new → part_words * (m - 1) + part_words ≤ length new
    last_room new l = let r = held-room in let s = held-some h in omega arith

    pub whole_row : {U : ℕ → ℕ → Type 0} {P : List Statement} {old new : List ℕ} → published_words ≤ length new → TableOf U P small.c old new → RowOf U P t (row new (m - 1))
    whole_row {U = U} {P = P} {new = new} l table =
        let r = last_room new l in
        let k : length (drop (part_words * (m - 1)) new) ≡ length new - part_words * (m - 1) = length-drop (part_words * (m - 1)) new in
        record {
          room = length-take-le part_words (drop (part_words * (m - 1)) new) (omega arith);
          labelled = λ d g.
              subst (λ (e : Condition). Labelled (length P) (member (row new (m - 1))) (SatBy U P e))
              (condition-unique t small.c d small.taken.spells g.spells) (whole-labelled h table);
        }
