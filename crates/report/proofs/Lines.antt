-- The lines of the output: how long they are, and the lines of the verdicts one after another. Assumes nothing.
use mathlib.Core.Path.{◌≡◌, sym}
use mathlib.Core.List.{List, [], ◌∷◌, ◌++◌, append_assoc, append-nil}
use Prim.Native.Nat.{ℕ, zero, suc, ◌+◌, ◌≤◌, ◌<◌}
use native.Mathlib.Omega.{arith}
use native.Mathlib.Numerals.{add-one}
use lib.ListN.{length, take, drop, get_or, length-append}
use lib.Seq.{get_or-drop}
use Rattle.language.specs.Spelling.{digits}
use Rattle.marks.specs.declared.Mark.{Mark}
use Rattle.marks.specs.Marks.{names, mark_at}
use Rattle.report.specs.Report.{refused_line, counts_line, verdict_line, verdict_lines}

pub refused-length : (n : ℕ) → length (refused_line n) ≡ 8 + (length (digits n) + 1)
unfolding refused_line
refused-length n = simp length-append (omega arith)

pub counts-length : (m a : ℕ) → length (counts_line m a) ≡ 6 + (length (digits m) + (10 + (length (digits a) + 1)))
unfolding counts_line
counts-length m a = simp length-append (omega arith)

pub verdict-length : (n v : ℕ) → length (verdict_line n v) ≡ length (digits n) + (1 + (length (digits v) + 1))
unfolding verdict_line
verdict-length n v = simp length-append (omega arith)

-- one line more
pub verdicts-more : (ms : List Mark) (vs : List ℕ) (j : ℕ) → j < length ms
    → verdict_lines (take (j + 1) ms) vs ≡ verdict_lines (take j ms) vs ++ verdict_line (names (mark_at ms j)) (get_or vs j 0)
unfolding verdict_lines
verdicts-more ms vs j h = rw add-one (go ms vs j h)
  where
    go : (ms : List Mark) (vs : List ℕ) (j : ℕ) → j < length ms
        → verdict_lines (take (suc j) ms) vs ≡ verdict_lines (take j ms) vs ++ verdict_line (names (mark_at ms j)) (get_or vs j 0)
    go [] vs j h = absurd (omega arith)
    go (m ∷ ms) vs zero h = append-nil (verdict_line (names m) (get_or vs 0 0))
    go (m ∷ ms) vs (suc j) h =
        let s : 1 + j ≡ suc j = omega arith in
        rw (go ms (drop 1 vs) j (omega arith), get_or-drop 1 vs j 0, s) (sym (append_assoc (verdict_line (names m) (get_or vs 0 0)) (verdict_lines (take j ms) (drop 1 vs)) (verdict_line (names (mark_at ms j)) (get_or vs (suc j) 0))))

-- the first lines are no longer than all
pub verdicts-take : (ms : List Mark) (vs : List ℕ) (j : ℕ) → length (verdict_lines (take j ms) vs) ≤ length (verdict_lines ms vs)
unfolding verdict_lines
verdicts-take [] vs zero = omega arith
verdicts-take [] vs (suc j) = omega arith
verdicts-take (m ∷ ms) vs zero = omega arith
verdicts-take (m ∷ ms) vs (suc j) = let l = verdicts-take ms (drop 1 vs) j in simp length-append (omega arith)
