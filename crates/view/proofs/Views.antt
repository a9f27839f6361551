-- From what `tabulate` answers to what is printed. Assumes nothing.
use mathlib.Core.Path.{◌≡◌, refl, ◌∙◌}
use mathlib.Core.Bool.{true}
use mathlib.Core.Logic.{inl, inr, ◌↔◌}
use mathlib.Core.List.{List}
use Prim.Native.Nat.{ℕ, ◌+◌, ◌*◌, ◌/◌, ◌%◌, ◌≤◌, ◌<◌}
use native.Mathlib.Omega.{arith}
use lib.ListN.{length, get_or}
use Rattle.statement_writer.specs.Writing.{Put}
use Rattle.language.specs.declared.Statement.{Statement}
use Rattle.program.specs.Program.{Taken, most}
use Rattle.program.specs.Reading as program
use Rattle.program.specs.declared.Program.{Program}
use Rattle.program.proofs.RoundTrip.{taken-unique}
use Rattle.condition_reader.proofs.Unique as condition-unique
use Rattle.bits.specs.Row.{bit, member}
use Rattle.condition.specs.Condition.{Condition, parts}
use Rattle.truth.specs.Truth.{Sat}
use Rattle.condition.specs.Texts as condition
use Rattle.condition.specs.Words as condition-words
use Rattle.condition.proofs.Parts.{parts-few}
use Rattle.table.specs.Table.{part_words, part_at}
use Rattle.table.specs.Fill.{HeldOf}
use Rattle.tabulate.specs.Tabulate.{table_words, TabulateFilled}
use Rattle.view.specs.View.{view_text, Refuses, PrintsView, PrintsRefusal, view_room, Printed, Views}
use Rattle.view.specs.Writing.{truth_in, ViewFits, RefusalPut}
use Rattle.std.specs.Prelude.{Result, Ok, Err}
use Rattle.desk.specs.declared.Failure.{Failure}
use Rattle.desk.specs.declared.Failure.TheVariants as failure
use Rattle.statement_writer.proofs.Puts.{put-within}
use Rattle.view.proofs.Room.{view-most}

pub refusal-printed : {t u : List ℕ} {n line : ℕ} → Refuses t u n line → {o q : List ℕ} {k : ℕ} → view_room ≤ length o → RefusalPut n line o q k → Printed (PrintsRefusal t u) o q k
refusal-printed {n = n} {line = line} r room put = record { room = room; w = _; says = record { n = n; line = line; refuses = r; text = refl }; fits = put.0; written = put.1 }

-- a bit of the table
table-bit : (ws : List ℕ) (k s : ℕ) → truth_in ws k s ≡ bit (get_or ws (part_words * k + s / 64) 0) (s % 64)
unfolding member
table-bit ws k s =
    let w : (k * most + s) / 64 ≡ part_words * k + s / 64 = omega arith in
    let b : (k * most + s) % 64 ≡ s % 64 = omega arith in
    rw (w, b)

module _ {t u old new : List ℕ} {n satisfied first : ℕ} (f : TabulateFilled t u old new n satisfied first) (l : length old ≡ table_words) where
  tells : (k : ℕ) → k < length (parts f.c) → (s : ℕ) → s < length f.P → (truth_in new k s ≡ true) ↔ Sat f.P (part_at f.c k) s
  tells k h s i =
      let m = f.counted in
      let c = f.program.program.counted in
      let z : s / 64 * 64 + s % 64 ≡ s = omega arith in
      let b = rw (z, ← table-bit new k s) at (f.bits k (omega arith) (s / 64) (s % 64) (omega arith) (omega arith)) in
      (λ e. (b.0 e).1, λ x. b.1 (i, x))

  module _ (p : Program) (taken : Taken t (program.statements p)) (held : program.Held p) (c : Condition) (ws : List ℕ) (h : HeldOf u c n ws) where
    back : program.statements p ≡ f.P
    back = taken-unique taken f.program

    words : condition-words.Held f.c n ws
    words = rw (condition-unique.taken-unique h.taken f.condition) at h.held

    short : length (view_text (program.statements p) f.c (truth_in new) satisfied first) ≤ view_room
    short = rw back (view-most (truth_in new) f.program.program f.condition words f.counts)

    pub view-fits : {m : ℕ} → view_room ≤ m → ViewFits u ws new p n satisfied first m
    view-fits h =
        let c = f.counted in
        let s = parts-few f.c in
        let e = f.condition.few in
        let q = f.same in
        record {
          c = f.c;
          taken = f.condition;
          words = words;
          held = held;
          tabled = record { size = f.same ∙ l; some = omega arith; few = omega arith };
          fits = omega (arith, short);
        }

    pub view-printed : {o q : List ℕ} {k : ℕ} → view_room ≤ length o
        → ((c : Condition) → condition.Taken u c → Put o 0 (view_text (program.statements p) c (truth_in new) satisfied first) q k) → Printed (PrintsView t u) o q k
    view-printed room put =
        record {
          room = room;
          w = view_text (program.statements p) f.c (truth_in new) satisfied first;
          says =
              record {
                P = f.P;
                c = f.c;
                program = f.program;
                condition = f.condition;
                truth = truth_in new;
                tells = tells;
                satisfied = satisfied;
                first = first;
                whole = f.truth;
                decides = f.decides;
                counts = f.counts;
                text = rw back;
              };
          fits = omega (arith, short);
          written = put f.c f.condition;
        }

pub printed-within : {Says : List ℕ → Type 0} {o q : List ℕ} {n : ℕ} → Printed Says o q n → n ≤ length q
printed-within p = put-within p.written p.fits

-- each answer's output, which ends within the lent bytes
module _ (t u o q : List ℕ) {r : Result ℕ Failure} {n : ℕ} (h : Views t u o q r) where
  pub as-view : r ≡ Ok n → Printed (PrintsView t u) o q n
  as-view is = rw is at h

  pub as-refusal : r ≡ Err (failure.Refused n) → Printed (PrintsRefusal t u) o q n
  as-refusal is = rw is at h

  pub view-within : r ≡ Ok n → n ≤ length q
  view-within is = printed-within (as-view is)

  pub refusal-within : r ≡ Err (failure.Refused n) → n ≤ length q
  refusal-within is = printed-within (as-refusal is)
