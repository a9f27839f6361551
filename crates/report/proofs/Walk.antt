-- Writing the lines of the verdicts, mark after mark, while the list is read a second time. Assumes nothing.
use mathlib.Core.Path.{◌≡◌, refl, ap, ◌∙◌}
use mathlib.Core.List.{List, [], ◌++◌}
use Prim.Native.Nat.{ℕ, ◌+◌, ◌≤◌, ◌<◌}
use native.Mathlib.Omega.{arith}
use lib.ListN.{length, take, get_or}
use lib.Seq.{take_all, length-sets}
use Rattle.statement_writer.specs.Writing.{Put}
use Rattle.statement_writer.proofs.Puts.{put_then, room}
use Rattle.marks.specs.declared.Mark.{Mark}
use Rattle.std.specs.Prelude.{Option, Some, None}
use Rattle.marks.specs.Marks.{names, mark_at}
use Rattle.marks.specs.Reading.{MarkLineRead, Taken}
use Rattle.marks.proofs.Lists.{marks-unique}
use Rattle.marks.proofs.Walk.{Begins, begins-first, text-line, text-done, line-found, line-inside, line-mark, line-next}
use Rattle.report.specs.Report.{verdict_line, verdict_lines}
use Rattle.report.specs.Writing.{VerdictsFit}
use Rattle.report.proofs.Lines.{verdicts-more, verdicts-take}

-- line j of the list begins at `from` of its text u, and the lines of the verdicts before it stand in q from `at` on, up to `to`
pub record Written (u vs o : List ℕ) (at : ℕ) (q : List ℕ) (to from j : ℕ) : Type 0 where
  pub ms : List Mark
  pub judged : length ms ≤ length vs
  pub fits : at + length (verdict_lines ms vs) ≤ length o
  pub begins : Begins u ms j from
  pub put : Put o at (verdict_lines (take j ms) vs) q to

pub none_written : {u vs o : List ℕ} {at : ℕ} → VerdictsFit u vs at (length o) → Written u vs o at o at 0 0
unfolding verdict_lines
none_written f =
    record {
      ms = f.ms;
      judged = f.judged;
      fits = f.fits;
      begins = begins-first f.taken.spells;
      put = record { text = refl; after = omega arith };
    }

module _ {u vs o : List ℕ} {at : ℕ} {q : List ℕ} {to from j : ℕ} (i : Written u vs o at q to from j) where
  pub written-length : length q ≡ length o
  written-length = ap length i.put.text ∙ length-sets o at (verdict_lines (take j i.ms) vs)

  -- where text is left a line is found
  pub line-there : {r : Option (Mark × ℕ)} → r ≡ None → MarkLineRead u from r → from < length u → ⊥
  line-there is l h = line-found i.begins is l (text-line i.begins h)

  module _ {r : Option (Mark × ℕ)} {m : Mark} {k : ℕ} (is : r ≡ Some (m, k)) (l : MarkLineRead u from r) where
    -- which has its verdict
    pub verdict-there : j < length vs
    verdict-there = omega (arith, line-inside i.begins is l, i.judged)

    module _ {n : ℕ} (of : n ≡ names m) where
      line-more : verdict_lines (take (j + 1) i.ms) vs ≡ verdict_lines (take j i.ms) vs ++ verdict_line n (get_or vs j 0)
      line-more = verdicts-more i.ms vs j (line-inside i.begins is l) ∙ rw (of, line-mark i.begins is l (mark_at [] 0))

      -- and room for it
      pub line_room : to + length (verdict_line n (get_or vs j 0)) ≤ length q
      line_room = room (verdict_line n (get_or vs j 0)) i.put (rw (← line-more) (omega (arith, verdicts-take i.ms vs (j + 1), i.fits)))

      pub written-more : {p : List ℕ} {next : ℕ} → Put q to (verdict_line n (get_or vs j 0)) p next → Written u vs o at p next k (j + 1)
      written-more w =
          record {
            ms = i.ms;
            judged = i.judged;
            fits = i.fits;
            begins = line-next i.begins is l;
            put = rw line-more (put_then i.put w);
          }

  -- no text is left
  pub all-written : length u ≤ from → (ms : List Mark) → Taken u ms → Put o at (verdict_lines ms vs) q to
  all-written h ms t =
      let e : i.ms ≡ ms = marks-unique i.begins.spells t.spells in
      let d : j ≡ length i.ms = text-done i.begins h in
      rw (take_all j i.ms (omega arith), e) at i.put
