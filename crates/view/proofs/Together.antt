-- The parts, the rows of digits, the rows of statements and the counts, one after another. Assumes nothing.
use mathlib.Core.Path.{◌≡◌}
use mathlib.Core.List.{List, ◌++◌}
use Prim.Native.Nat.{ℕ, ◌+◌, ◌≤◌}
use native.Mathlib.Omega.{arith}
use lib.ListN.{length}
use Rattle.statement_writer.specs.Writing.{Put}
use Rattle.statement_writer.proofs.Puts.{put_then, room, front}
use Rattle.program.specs.Reading.{statements}
use Rattle.program.specs.declared.Program.{Program}
use Rattle.condition.specs.Condition.{Condition}
use Rattle.condition.specs.Texts.{Taken}
use Rattle.condition_reader.proofs.Spelling.{condition-unique}
use Rattle.view.specs.View.{part_lines, head_row, tens, units, rows, last_line, view_text}
use Rattle.view.specs.Writing.{truth_in, ViewFits, PartsFit, HeadFits, RowsFit}
use Rattle.view.specs.declared.Row.TheVariants.{Tens, Units}

-- what follows the parts, and so on
module _ (table : List ℕ) (p : Program) (n satisfied first : ℕ) where
  abbrev after_units : List ℕ
  after_units = rows (truth_in table) n (statements p) ++ last_line n satisfied first

  abbrev after_tens : List ℕ
  after_tens = head_row units n ++ after_units

  abbrev after_parts : List ℕ
  after_parts = head_row tens n ++ after_tens

module _ (o : List ℕ) {u ws table : List ℕ} {p : Program} {n satisfied first : ℕ} (f : ViewFits u ws table p n satisfied first (length o)) where
  in_order : (c : Condition) → Taken u c → view_text (statements p) c (truth_in table) satisfied first ≡ part_lines c ++ after_parts table p n satisfied first
  unfolding view_text
  in_order c t = let e : f.c ≡ c = condition-unique u f.c c f.taken.spells t.spells in rw (← e, ← f.words.counted)

  whole_room : 0 + length (part_lines f.c ++ after_parts table p n satisfied first) ≤ length o
  whole_room = rw (← (in_order f.c f.taken)) (omega (arith, f.fits))

  pub parts-fit : PartsFit u ws n 0 (length o)
  parts-fit =
      record { c = f.c; taken = f.taken; held = f.words; fits = front (part_lines f.c) (after_parts table p n satisfied first) 0 (length o) whole_room }

  module _ {q : List ℕ} {k : ℕ} (a : (c : Condition) → Taken u c → Put o 0 (part_lines c) q k) where
    tens-room : k + length (after_parts table p n satisfied first) ≤ length q
    tens-room = room (after_parts table p n satisfied first) (a f.c f.taken) whole_room

    pub tens-fit : HeadFits table Tens n k (length q)
    tens-fit = record { tabled = f.tabled; placed = tt; fits = front (head_row tens n) (after_tens table p n satisfied first) k (length q) tens-room }

    module _ {q₁ : List ℕ} {k₁ : ℕ} (b : Put q k (head_row tens n) q₁ k₁) where
      units-room : k₁ + length (after_tens table p n satisfied first) ≤ length q₁
      units-room = room (after_tens table p n satisfied first) b tens-room

      pub units-fit : HeadFits table Units n k₁ (length q₁)
      units-fit = record { tabled = f.tabled; placed = tt; fits = front (head_row units n) (after_units table p n satisfied first) k₁ (length q₁) units-room }

      module _ {q₂ : List ℕ} {k₂ : ℕ} (d : Put q₁ k₁ (head_row units n) q₂ k₂) where
        rows-room : k₂ + length (after_units table p n satisfied first) ≤ length q₂
        rows-room = room (after_units table p n satisfied first) d units-room

        pub rows_fit : RowsFit p table n k₂ (length q₂)
        rows_fit = record { held = f.held; tabled = f.tabled; fits = front (rows (truth_in table) n (statements p)) (last_line n satisfied first) k₂ (length q₂) rows-room }

        module _ {q₃ : List ℕ} {k₃ : ℕ} (e : Put q₂ k₂ (rows (truth_in table) n (statements p)) q₃ k₃) where
          pub last_room : k₃ + length (last_line n satisfied first) ≤ length q₃
          last_room = room (last_line n satisfied first) e rows-room

          pub put-together : {q₄ : List ℕ} {k₄ : ℕ} → Put q₃ k₃ (last_line n satisfied first) q₄ k₄ → (c : Condition) → Taken u c
              → Put o 0 (view_text (statements p) c (truth_in table) satisfied first) q₄ k₄
          put-together g c t = rw (in_order c t) (put_then (a c t) (put_then b (put_then d (put_then e g))))
