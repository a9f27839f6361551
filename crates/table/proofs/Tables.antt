-- The table, part after part. Assumes nothing.
use mathlib.Core.Path.{◌≡◌, sym, ◌∙◌, subst}
use mathlib.Core.List.{List}
use Prim.Native.Nat.{ℕ, ◌+◌, ◌*◌, ◌≤◌, ◌<◌}
use native.Mathlib.Omega.{arith}
use borrow.Author.Count.{below_more}
use lib.ListN.{length, get_or}
use Rattle.language.specs.declared.Statement.{Statement}
use Rattle.bits.specs.Row.{member, Kept}
use Rattle.bits.proofs.Tables.{row_kept}
use Rattle.labelling.specs.Labels.{Labelled}
use Rattle.condition.specs.Condition.{Condition, atom, unary, binary, spell_condition, parts}
use Rattle.condition.specs.Words.{code_in, left_in}
use Rattle.truth.specs.Truth.{SatBy}
use Rattle.condition.proofs.Words.{operator_code, Stands, stands_from, Operands, held-describes}
use Rattle.atom_reader.proofs.Spelling.{atom-complete}
use Rattle.atoms.specs.Facts.{used_in}
use Rattle.table.specs.Table.{part_words, row, part_at, Written}
use Rattle.table.specs.Known.{KnownIn, SomeKnown}
use Rattle.table.specs.Fill.{Tells, RowsRight, PartReady, HeldOf, SomeHeld, TableOf}

-- what the reader's words tell
pub word-tells : {t : List ℕ} {c : Condition} {m : ℕ} {ws : List ℕ} → HeldOf t c m ws → (k : ℕ) → k < m → Tells t c k (get_or ws k 0) (part_at c k)
unfolding spell_condition
word-tells {t = t} {c = c} {ws = ws} h k l = let d = held-describes h.taken h.held k l in go (part_at c k) d.code d.stands d.operands
  where
    go : (q : Condition) → code_in (get_or ws k 0) ≡ operator_code q → Stands t (get_or ws k 0) q → Operands (parts c) 0 k (get_or ws k 0) q → Tells t c k (get_or ws k 0) q
    go (atom a) e d o = (e, d.rest, rw (stands_from d) (atom-complete a d.rest d.valid))
    go (unary u p) e d o = (e, o.later, o.operand)
    go (binary b p q) e d o =
        let n : left_in (get_or ws k 0) ≡ o.left = o.named ∙ omega arith in
        (e, rw n o.earlier, rw n o.first, o.second)

-- the rows before the one that was written are kept
module _ (old new : List ℕ) (k : ℕ) (kept : Kept old new (part_words * k) part_words) (fits : part_words * k + part_words ≤ length old) where
  pub rows_more : (n : ℕ) (Q : ℕ → ℕ → Type 0) → ((j : ℕ) → j < k → Labelled n (member (row old j)) (Q j)) → Labelled n (member (row new k)) (Q k)
      → (j : ℕ) → j < k + 1 → Labelled n (member (row new j)) (Q j)
  rows_more n Q r l =
      below_more (λ j. Labelled n (member (row new j)) (Q j)) k
      (λ j h. subst (λ (w : List ℕ). Labelled n (member w) (Q j)) (sym (row_kept part_words old new k kept j (omega arith) (omega arith))) (r j h)) l

-- the parts before k are filled, and the words from there on are kept
pub record SoFar (n : ℕ) (rows : List ℕ) (codes : List (List ℕ)) (flow t : List ℕ) (m : ℕ) (ws old table : List ℕ) (k : ℕ) : Type 0 where
  pub within : k ≤ m
  pub room : part_words * m ≤ length old
  pub same : length table ≡ length old
  pub filled : (P : List Statement) (c : Condition) → KnownIn P n rows codes flow → HeldOf t c m ws → RowsRight (used_in rows) P c table k
  pub past : (j : ℕ) → part_words * k ≤ j → get_or table j 0 ≡ get_or old j 0

module _ {n : ℕ} {rows : List ℕ} {codes : List (List ℕ)} {flow t : List ℕ} {m : ℕ} {ws old table : List ℕ} {k : ℕ} (i : SoFar n rows codes flow t m ws old table k) where
  module _ (l : k < m) where
    pub part-ready : (P : List Statement) (c : Condition) → KnownIn P n rows codes flow → HeldOf t c m ws → PartReady P n rows codes flow t c (get_or ws k 0) table k
    part-ready P c x h = record { known = x; room = omega (arith, i.same, i.room); tells = word-tells h k l; filled = i.filled P c x h }

    pub so_far_more : SomeKnown n rows codes flow → SomeHeld t m ws → (new : List ℕ)
        → ((P : List Statement) (c : Condition) → KnownIn P n rows codes flow → HeldOf t c m ws → Written part_words table new k (length P) (SatBy (used_in rows) P (part_at c k))) → SoFar n rows codes flow t m ws old new (k + 1)
    so_far_more one some new w =
        let kept = (w one.P some.c one.known some.held).kept in
        record {
          within = omega arith;
          room = i.room;
          same = kept.same ∙ i.same;
          filled = λ P c x h. rows_more table new k (w P c x h).kept (omega (arith, i.same, i.room)) (length P) (λ j. SatBy (used_in rows) P (part_at c j)) (i.filled P c x h) (w P c x h).labelled;
          past = λ j b. kept.past j (omega arith) ∙ i.past j (omega arith);
        }

  pub all-filled : m ≤ k → (P : List Statement) (c : Condition) → KnownIn P n rows codes flow → HeldOf t c m ws → TableOf (used_in rows) P c old table
  all-filled l P c x h =
      let counted = h.held.counted in
      let b = i.within in
      record { same = i.same; rows = λ j d. i.filled P c x h j (omega arith); past = λ j d. i.past j (omega arith) }
