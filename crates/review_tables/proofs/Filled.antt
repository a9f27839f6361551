-- The tables, entry after entry. Assumes nothing.
use mathlib.Core.Path.{◌≡◌, ◌∙◌}
use mathlib.Core.List.{List}
use Prim.Native.Nat.{ℕ, ◌+◌, ◌*◌, ◌≤◌, ◌<◌}
use native.Mathlib.Omega.{arith}
use lib.ListN.{length, get_or}
use Rattle.language.specs.declared.Statement.{Statement}
use Rattle.condition.specs.Condition.{Condition}
use Rattle.truth.specs.Truth.{SatBy}
use Rattle.atoms.specs.Facts.{used_in}
use Rattle.table.specs.Table.{part_words, Written}
use Rattle.table.specs.Known.{KnownBy, KnownIn, SomeKnown}
use Rattle.table.proofs.Tables.{rows_more}
use Rattle.table.proofs.By.{labelled_by}
use Rattle.sharing.specs.Sharing.{part, firsts}
use Rattle.sharing.proofs.Keys.{firsts-numbered, firsts-ordered}
use Rattle.numbering.specs.Numbering.{Shares}
use Rattle.review_tables.specs.Filling.{RowsOf, EntryReady, SomeShares, TablesOf}

-- the tables before k are filled, and the words from there on are kept
pub record SoFar (n : ℕ) (rows : List ℕ) (codes : List (List ℕ)) (flow u entries : List ℕ) (count : ℕ) (old table : List ℕ) (k : ℕ) : Type 0 where
  pub within : k ≤ count
  pub room : part_words * count ≤ length old
  pub same : length table ≡ length old
  pub filled : (P : List Statement) (ps : List Condition) → KnownIn P n rows codes flow → Shares u ps entries count → RowsOf (used_in rows) P (firsts ps) table k
  pub past : (j : ℕ) → part_words * k ≤ j → get_or table j 0 ≡ get_or old j 0

module _ {n : ℕ} {rows : List ℕ} {codes : List (List ℕ)} {flow u entries : List ℕ} {count : ℕ} {old table : List ℕ} {k : ℕ}
    (i : SoFar n rows codes flow u entries count old table k) where
  module _ (l : k < count) where
    pub entry_ready : (P : List Statement) (ps : List Condition) → KnownIn P n rows codes flow → Shares u ps entries count → EntryReady P n rows codes flow u (firsts ps) (get_or entries k 0) table k
    entry_ready P ps x s = record {
      known = x;
      room = omega (arith, i.same, i.room);
      inside = omega (arith, s.counted);
      numbered = firsts-numbered ps s.postfix;
      ordered = firsts-ordered ps s.postfix;
      key = s.keys k l;
      filled = i.filled P ps x s;
    }

    pub so_far_more : SomeKnown n rows codes flow → SomeShares u entries count → (new : List ℕ)
        → ((P : List Statement) (ps : List Condition) → KnownIn P n rows codes flow → Shares u ps entries count → Written part_words table new k (length P) (SatBy (used_in rows) P (part (firsts ps) k)))
        → SoFar n rows codes flow u entries count old new (k + 1)
    so_far_more one some new w =
        let kept = (w one.P some.ps one.known some.shares).kept in
        record {
          within = omega arith;
          room = i.room;
          same = kept.same ∙ i.same;
          filled = λ P ps x s. rows_more table new k (w P ps x s).kept (omega (arith, i.same, i.room)) (length P) (λ j. SatBy (used_in rows) P (part (firsts ps) j)) (i.filled P ps x s) (w P ps x s).labelled;
          past = λ j b. kept.past j (omega arith) ∙ i.past j (omega arith);
        }

  pub all-filled : count ≤ k → (P : List Statement) (ps : List Condition) → KnownIn P n rows codes flow → Shares u ps entries count → TablesOf (used_in rows) P (firsts ps) old table
  all-filled l P ps x s =
      let counted = s.counted in
      let b = i.within in
      record { same = i.same; rows = λ j d. i.filled P ps x s j (omega arith); past = λ j d. i.past j (omega arith) }

-- the tables by whatever uses the facts are of
pub tables-by :
    {U : ℕ → ℕ → Type 0} {P : List Statement} {n : ℕ} {rows : List ℕ} {codes : List (List ℕ)} {flow u : List ℕ} {ps : List Condition} {entries : List ℕ} {count : ℕ} {old new : List ℕ}
    → KnownBy U P n rows codes flow → Shares u ps entries count → TablesOf (used_in rows) P (firsts ps) old new → TablesOf U P (firsts ps) old new
tables-by {ps = ps} x s table = record {
  same = table.same;
  rows = λ j l. labelled_by x (part (firsts ps) j) ((firsts-numbered ps s.postfix).ready j l).valid (table.rows j l);
  past = table.past;
}
