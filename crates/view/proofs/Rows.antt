-- The rows before a place are written: what `write_rows` keeps in its loop. Assumes nothing.
use Prim.Native.Nat.{ℕ, ◌+◌, ◌≤◌, ◌<◌}
use mathlib.Core.Path.{◌≡◌}
use mathlib.Core.List.{List, map}
use native.Mathlib.Omega.{arith}
use lib.ListN.{length, take}
use Rattle.statement_writer.specs.Writing.{Put}
use Rattle.language.specs.declared.Statement.{Statement}
use Rattle.encoding.specs.declared.Entry.{Entry}
use Rattle.program.specs.Program.{at, most}
use Rattle.encoding.specs.Encoding.{statement_in}
use Rattle.program.proofs.Held.{held, length-held, at_held}
use Rattle.view.specs.View.{up_to, row}
use Rattle.view.specs.Writing.{truth_in, Tabled, RowFits}
use Rattle.view.proofs.Texts.{upto-room, upto-more}

abbrev pub listed : List Entry → ℕ → List Statement
listed es n = map statement_in (take n es)

abbrev pub row_of : List ℕ → ℕ → List Entry → ℕ → ℕ → List ℕ
row_of table n es count s = row (truth_in table) n s (at (listed es count) s)

pub record Inv (o : List ℕ) (at₀ : ℕ) (table : List ℕ) (n : ℕ) (es : List Entry) (count : ℕ) (q : List ℕ) (to s : ℕ) : Type 0 where
  pub room : length es ≡ most
  pub few : count ≤ most
  pub tabled : Tabled table n
  pub fits : at₀ + length (up_to count (row_of table n es count)) ≤ length o
  pub within : s ≤ count
  pub put : Put o at₀ (up_to s (row_of table n es count)) q to

-- the row at place s is that of the entry there
module _ {o : List ℕ} {at₀ : ℕ} {table : List ℕ} {n : ℕ} {es : List Entry} {count : ℕ} {q : List ℕ} {to s : ℕ} (i : Inv o at₀ table n es count q to s) (h : s < count) where
  row_is : row_of table n es count s ≡ row (truth_in table) n s (held es s)
  row_is =
      let l : count ≤ length es = omega arith in
      rw (at_held es count s (rw (length-held es count l) h))

  pub row_fits : RowFits table n s (held es s) to (length q)
  row_fits =
      record {
        tabled = i.tabled;
        placed = omega arith;
        fits = rw (← row_is) (upto-room (row_of table n es count) i.put count h i.fits);
      }

  pub inv-more : {p : List ℕ} {next : ℕ} → Put q to (row (truth_in table) n s (held es s)) p next → Inv o at₀ table n es count p next (s + 1)
  inv-more w =
      record {
        room = i.room;
        few = i.few;
        tabled = i.tabled;
        fits = i.fits;
        within = omega arith;
        put = upto-more (row_of table n es count) i.put (rw row_is w);
      }
