-- Writing the lines of the parts, one after another. Assumes nothing.
use mathlib.Core.Path.{◌≡◌}
use mathlib.Core.List.{List}
use Prim.Native.Nat.{ℕ, ◌+◌, ◌-◌, ◌≤◌, ◌<◌}
use native.Mathlib.Omega.{arith}
use lib.ListN.{length, take, drop, get_or}
use Rattle.statement_writer.specs.Writing.{Put}
use Rattle.condition.specs.Condition.{Condition, spell_condition}
use Rattle.condition.specs.Texts.{most_parts, Taken}
use Rattle.condition.specs.Words.{start_in, end_in, Held}
use Rattle.condition.proofs.Words.{Stands, stands-text, held-describes}
use Rattle.condition_reader.proofs.Spelling.{condition-unique}
use Rattle.table.specs.Table.{part_at}
use Rattle.view.specs.View.{up_to, part_line, part_lines}
use Rattle.view.specs.Writing.{PartsFit}
use Rattle.statement_writer.proofs.Puts.{put-length}
use Rattle.view.proofs.Texts.{upto-none, upto-room, upto-more, upto_all}

abbrev line_of : Condition → ℕ → List ℕ
line_of c k = part_line k (spell_condition (part_at c k))

pub record Shown (u ws : List ℕ) (n : ℕ) (o : List ℕ) (at : ℕ) (q : List ℕ) (to k : ℕ) : Type 0 where
  pub c : Condition
  pub taken : Taken u c
  pub held : Held c n ws
  pub fits : at + length (up_to n (line_of c)) ≤ length o
  pub put : Put o at (up_to k (line_of c)) q to
  pub within : k ≤ n

pub none-shown : {u ws o : List ℕ} {n at : ℕ} → PartsFit u ws n at (length o) → Shown u ws n o at o at 0
unfolding part_lines
none-shown {o = o} {n = n} {at = at} f =
    record { c = f.c; taken = f.taken; held = f.held; fits = rw f.held.counted f.fits; put = upto-none o at (line_of f.c); within = omega arith }

module _ {u ws : List ℕ} {n : ℕ} {o : List ℕ} {at : ℕ} {q : List ℕ} {to k : ℕ} (i : Shown u ws n o at q to k) where
  pub shown-length : length q ≡ length o
  shown-length = put-length i.put

  module _ (h : k < n) where
    pub room-few : k < most_parts
    room-few = omega (arith, i.held.counted, i.taken.few)

    -- where part k stands
    abbrev pub cut : Stands u (get_or ws k 0) (part_at i.c k)
    cut = (held-describes i.taken i.held k h).stands

    pub part_room : to + length (part_line k (take (end_in (get_or ws k 0) - start_in (get_or ws k 0)) (drop (start_in (get_or ws k 0)) u))) ≤ length q
    part_room = rw (stands-text cut) (upto-room (line_of i.c) i.put n h i.fits)

    pub shown-more : {p : List ℕ} {next : ℕ} → Put q to (part_line k (take (end_in (get_or ws k 0) - start_in (get_or ws k 0)) (drop (start_in (get_or ws k 0)) u))) p next
        → Shown u ws n o at p next (k + 1)
    shown-more w =
        record { c = i.c; taken = i.taken; held = i.held; fits = i.fits; put = upto-more (line_of i.c) i.put (rw (stands-text cut) at w); within = omega arith }

  pub all_shown : n ≤ k → (c : Condition) → Taken u c → Put o at (part_lines c) q to
  unfolding part_lines
  all_shown l c t =
      let e : i.c ≡ c = condition-unique u i.c c i.taken.spells t.spells in
      rw (i.held.counted, e) at (upto_all (line_of i.c) n i.within l i.put)
