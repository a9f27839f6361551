-- The counts, the verdicts and the new text, one after another. Assumes nothing.
use mathlib.Core.List.{List, ◌++◌}
use Prim.Native.Nat.{ℕ, ◌+◌, ◌≤◌}
use native.Mathlib.Omega.{arith}
use lib.ListN.{length, length-append}
use Rattle.statement_writer.specs.Writing.{Put}
use Rattle.statement_writer.proofs.Puts.{put_then, room, front}
use Rattle.marks.specs.declared.Mark.{Mark}
use Rattle.marks.specs.Reading.{Taken}
use Rattle.report.specs.Report.{counts_line, verdict_lines}
use Rattle.report.specs.Writing.{VerdictsFit, ReportFits}

pub counts_room : {u vs w : List ℕ} {count accepted n : ℕ} → ReportFits u vs w count accepted n → length (counts_line count accepted) ≤ n
counts_room {vs = vs} {w = w} {count = count} {accepted = accepted} f =
    omega (arith, length-append (counts_line count accepted) (verdict_lines f.ms vs ++ w), f.fits)

module _ {u vs w o : List ℕ} {count accepted : ℕ} (f : ReportFits u vs w count accepted (length o)) where
  module _ {q : List ℕ} {k : ℕ} (a : Put o 0 (counts_line count accepted) q k) where
    rest-room : k + length (verdict_lines f.ms vs ++ w) ≤ length q
    rest-room = room (verdict_lines f.ms vs ++ w) a (omega (arith, f.fits))

    pub verdicts-room : VerdictsFit u vs k (length q)
    verdicts-room =
        record {
          ms = f.ms;
          taken = f.taken;
          judged = f.judged;
          fits = front (verdict_lines f.ms vs) w k (length q) rest-room;
        }

    module _ {p : List ℕ} {l : ℕ} (b : (ms : List Mark) → Taken u ms → Put q k (verdict_lines ms vs) p l) where
      pub text_room : l + length w ≤ length p
      text_room = room w (b f.ms f.taken) rest-room

      pub put-together : {r : List ℕ} {n : ℕ} → Put p l w r n → (ms : List Mark) → Taken u ms
          → Put o 0 (counts_line count accepted ++ (verdict_lines ms vs ++ w)) r n
      put-together c ms t = put_then a (put_then (b ms t) c)
