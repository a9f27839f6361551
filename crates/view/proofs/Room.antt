-- A view has room in view-room bytes, whatever the program and the condition. Assumes nothing.
use mathlib.Core.Bool.{Bool}
use mathlib.Core.Logic.{⊎_elim}
use mathlib.Core.List.{List}
use Prim.Native.Nat.{ℕ, ◌+◌, ◌-◌, ◌*◌, ◌^◌, ◌≤◌, ◌<◌}
use native.Mathlib.Omega.{arith}
use lib.ListN.{length, length-append}
use Rattle.language.specs.Spelling.{spell}
use Rattle.language.specs.declared.Statement.{Statement}
use Rattle.language.proofs.Lengths.{digits-length}
use Rattle.program.specs.Program.{at, WellFormed}
use Rattle.program.proofs.Held.{at-valid}
use Rattle.program.proofs.Lengths.{statement-short}
use Rattle.bits.proofs.Counts.{count-le}
use Rattle.condition.specs.Condition.{Condition, spell_condition, parts}
use Rattle.condition.specs.Texts.{most_parts, Taken}
use Rattle.condition.specs.Words.{Held}
use Rattle.table.specs.Table.{part_words, part_at}
use Rattle.table.specs.Summary.{Counts}
use Rattle.desk.specs.Columns.{number_columns, statement_columns}
use Rattle.desk.proofs.Lengths.{wide-length, padded-length}
use Rattle.view.specs.View.{part_columns, part_line, part_lines, head_row, tens, units, mark, row, rows, view_text, part_room, row_room, view_room}
use Rattle.view.proofs.Texts.{upto-most, columns-length, part_length, head-length, row-length, last-length}
use Rattle.condition.proofs.Words.{stands-short, held-describes}

part-most : {u : List ℕ} {c : Condition} {n : ℕ} {ws : List ℕ} → Taken u c → Held c n ws → (k : ℕ) → k < n
    → length (part_line k (spell_condition (part_at c k))) ≤ part_room
part-most {c = c} a d k h =
    let e = d.counted in
    let f = a.few in
    omega (arith, part_length k (spell_condition (part_at c k)), wide-length part_columns (k + 1), digits-length part_columns (k + 1) (omega arith) (omega arith), stands-short (held-describes a d k h).stands, a.short)

head-most : (f : ℕ → ℕ) (n : ℕ) → n ≤ most_parts → length (head_row f n) ≤ row_room
head-most f n h = omega (arith, head-length f n, columns-length f n)

row-most : {P : List Statement} (truth : ℕ → ℕ → Bool) (n s : ℕ) → WellFormed P → n ≤ most_parts → s < length P → length (row truth n s (at P s)) ≤ row_room
row-most {P = P} truth n s w h l =
    let c = w.counted in
    let m = statement-short (length P) (at P s) c.1 (at-valid P s w.valid l) (w.aimed s l) in
    omega (arith, row-length truth n s (at P s), wide-length number_columns (s + 1), digits-length number_columns (s + 1) (omega arith) (omega arith), padded-length statement_columns (spell (at P s)), columns-length (λ k. mark (truth k s)) n)

first-most : {truth : ℕ → Bool} {satisfied first : ℕ} → Counts truth (part_words * 64) satisfied first → first < 10 ^ number_columns
first-most c = ⊎_elim (λ e. omega (arith, e.0)) (λ e. omega (arith, e.1, e.2)) c.earliest

satisfied-most : {truth : ℕ → Bool} {satisfied first : ℕ} → Counts truth (part_words * 64) satisfied first → satisfied < 10 ^ number_columns
satisfied-most {truth = truth} c = omega (arith, c.counted, count-le truth (part_words * 64))

pub view-most : {P : List Statement} {u : List ℕ} {c : Condition} {n : ℕ} {ws : List ℕ} {whole : ℕ → Bool} {satisfied first : ℕ} (truth : ℕ → ℕ → Bool)
    → WellFormed P → Taken u c → Held c n ws → Counts whole (part_words * 64) satisfied first → length (view_text P c truth satisfied first) ≤ view_room
unfolding view_text part_lines rows
view-most {P = P} {c = c} {n = n} {satisfied = satisfied} {first = first} truth w a d s =
    let f = a.few in
    let e = d.counted in
    let l = w.counted in
    let m : ℕ = length (parts c) in
    let x = upto-most (λ k. part_line k (spell_condition (part_at c k))) part_room m (λ k h. part-most a d k (omega arith)) in
    let y = upto-most (λ i. row truth m i (at P i)) row_room (length P) (λ i h. row-most truth m i w f h) in
    let z = last-length m satisfied first in
    simp length-append
    (omega (arith, head-most tens m f, head-most units m f, digits-length part_columns m (omega arith) (omega arith), digits-length number_columns satisfied (omega arith) (satisfied-most s), digits-length number_columns first (omega arith) (first-most s)))
