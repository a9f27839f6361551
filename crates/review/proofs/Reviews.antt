-- From the rows of the tables to the bits that `review` promises. Assumes nothing.
use mathlib.Core.Path.{◌≡◌, sym, subst}
use mathlib.Core.Bool.{true, true≢false}
use mathlib.Core.List.{List}
use Prim.Native.Nat.{ℕ, ◌+◌, ◌*◌, ◌≤◌, ◌<◌}
use native.Mathlib.Omega.{arith}
use lib.ListN.{length, get_or}
use Rattle.std.specs.Prelude.{Result, Ok, Err, MatchResult, is_ok}
use Rattle.language.specs.declared.Statement.{Statement}
use Rattle.program.specs.Program.{Taken}
use Rattle.bits.specs.Row.{member}
use Rattle.labelling.specs.Labels.{Labelled}
use Rattle.condition.specs.Condition.{Condition}
use Rattle.truth.specs.Truth.{uses_of, Sat}
use Rattle.table.specs.Table.{part_words, row}
use Rattle.sharing.specs.Sharing.{most_lines, part, number_of, firsts, parts_of}
use Rattle.sharing.proofs.Lines.{line_known, line-own}
use Rattle.review_reader.specs.Reading as reading
use Rattle.review_reader.specs.Walking.{Held}
use Rattle.review_reader.proofs.Taken.{taken-valid, taken-length}
use Rattle.review_tables.specs.Filling.{TablesOf, Rowed, CountedLines}
use Rattle.tabulate.proofs.Tabulates.{labelled-bit, row-bit}
use Rattle.review.specs.Review.{review_words, Told, ReviewFilled}

-- what holds of a result holds of its value too where its refusal is told as another
abbrev InOk : {A E F : Type 0} → (Result A E → Type 0) → Result A F → Type 0
InOk P (Ok x) = P (Ok x)
InOk P (Err e) = Unit

pub ok-holds : {A E : Type 0} (F : Type 0) (P : Result A E → Type 0) (Q : E → Type 0) {c : A} (r : Result A E) → P r → MatchResult r (λ x. ◌≡◌ {A = Result A F} (Ok c) (Ok x)) Q → true ≡ is_ok r → P (Ok c)
ok-holds F P Q (Ok x) h e t = subst (InOk P) (sym e) h
ok-holds F P Q (Err d) h q t = absurd (true≢false t)

taken-few : {u : List ℕ} {cs : List Condition} → reading.Taken u cs → length cs ≤ most_lines
taken-few {cs = cs} t = omega (arith, taken-length t.spelled.ls cs t.spelled.taken, t.spelled.countable)

pub filled-few : {t u old new : List ℕ} {tables lines : ℕ} {told : Told} → ReviewFilled t u old new tables lines told → lines ≤ most_lines
filled-few f = omega (arith, f.counted, taken-few f.conditions)

module _ {u : List ℕ} {cs : List Condition} {tables lines : ℕ} {entries numbers counts : List ℕ} (h : Held u cs tables lines entries numbers counts) where
  -- a line's table is among those that are filled
  pub line-inside : (j : ℕ) → j < lines → get_or numbers j 0 < tables
  line-inside j l =
      let i : j < length cs = omega (arith, h.counted) in
      omega (arith, h.tables_of j i, line_known cs j i, h.shares.counted)

  pub few-lines : lines ≤ most_lines
  few-lines = omega (arith, h.counted, taken-few h.taken)

  pub few-tables : part_words * tables ≤ review_words
  few-tables = omega (arith, h.shares.counted, h.taken.few)

  pub lines-rowed : (table : List ℕ) → review_words ≤ length table → Rowed table numbers lines
  lines-rowed table room = record {
    few = omega (arith, few-lines, h.lines_of.room);
    size = h.lines_of.room;
    inside = λ j l. omega (arith, line-inside j l, few-tables);
  }

  module _ {P : List Statement} {old new : List ℕ} (f : TablesOf (uses_of P) P (firsts (parts_of cs)) old new) where
    -- the row that a line points to is the line's
    line-labelled : (j : ℕ) → j < lines → Labelled (length P) (member (row new (get_or numbers j 0))) (Sat P (part cs j))
    line-labelled j l =
        let i : j < length cs = omega (arith, h.counted) in
        let own = line-own cs j i (taken-valid h.taken.spelled.ls cs h.taken.spelled.taken) in
        rw (h.tables_of j i) (subst (λ (d : Condition). Labelled (length P) (member (row new (number_of (firsts (parts_of cs)) (part cs j)))) (Sat P d)) own
        (f.rows (number_of (firsts (parts_of cs)) (part cs j)) (line_known cs j i)))

    pub reviewed : {t : List ℕ} {satisfied first : List ℕ} → Taken t P → review_words ≤ length old → CountedLines new numbers satisfied first lines
        → ReviewFilled t u old new tables lines (record { tables = numbers; parts = counts; satisfied = satisfied; first = first })
    reviewed p room c =
        let n = h.shares.counted in
        let m = h.counted in
        record {
          P = P;
          cs = cs;
          room = room;
          program = p;
          conditions = h.taken;
          filled = n;
          counted = m;
          same = f.same;
          bits = λ k l w b i j. rw (← row-bit new k w b i j) (labelled-bit (f.rows k (omega arith)) (w * 64 + b));
          kept = λ k l. f.past k (omega arith);
          each = λ j l. record {
            points = h.tables_of j (omega arith);
            counted = h.lines_of.sizes j (omega arith);
            truth = member (row new (get_or numbers j 0));
            decides = labelled-bit (line-labelled j l);
            counts = c.counts j l;
          };
          rest = record {
            sizes = (h.lines_of.room, h.lines_of.room_counts, c.size, c.size_first);
            zeros = λ j l. (h.lines_of.past j (omega arith), h.lines_of.past_counts j (omega arith), c.past j l, c.past_first j l);
          };
        }
