-- The counts, the verdicts and the new text have room in judged-room bytes, whatever the program and the list. Assumes nothing.
use mathlib.Core.Path.{◌≡◌}
use mathlib.Core.List.{List, [], ◌∷◌}
use Prim.Native.Nat.{ℕ, suc, ◌+◌, ◌*◌, ◌^◌, ◌≤◌, ◌<◌}
use native.Mathlib.Omega.{arith}
use lib.Dec.{eqb}
use lib.ListN.{length, drop, get_or, length-append}
use lib.Seq.{get_or-drop}
use Rattle.language.specs.Spelling.{largest}
use Rattle.language.specs.declared.Statement.{Statement}
use Rattle.language.proofs.Lengths.{digits-length, number-most}
use Rattle.program.specs.Program.{text}
use Rattle.bits.proofs.Counts.{count-le}
use Rattle.marks.specs.declared.Mark.{Mark}
use Rattle.marks.specs.declared.Mark.TheVariants.{Rm, Rpl, Cse}
use Rattle.marks.specs.Marks.{names, ValidMark, AllValid}
use Rattle.marks.specs.Reading.{Taken, most}
use Rattle.rewriting.specs.declared.Verdict.{Verdict}
use Rattle.rewriting.specs.declared.Verdict.TheVariants.{Accepted, Missing, Repeated, Unfit, MayFault, Unmet}
use Rattle.rewriting.specs.Verdicts.{number, Verdicts, accepted_count}
use Rattle.judge.specs.Judge.{text_bytes}
use Rattle.report.specs.Report.{counts_line, verdict_line, verdict_lines, judged_text, count_digits, verdict_digits, counts_room, verdict_room, judged_room}
use Rattle.report.proofs.Lines.{counts-length, verdict-length}

counts-most : (m a : ℕ) → m ≤ most → a ≤ m → length (counts_line m a) ≤ counts_room
counts-most m a h k = omega (arith, counts-length m a, digits-length count_digits m (omega arith) (omega arith), digits-length count_digits a (omega arith) (omega arith))

verdict-most : (n v : ℕ) → n ≤ largest → v < 10 ^ verdict_digits → length (verdict_line n v) ≤ verdict_room
verdict-most n v h k = omega (arith, verdict-length n v, number-most n (omega arith), digits-length verdict_digits v (omega arith) k)

names-valid : (m : Mark) → ValidMark m → names m ≤ largest
names-valid (Rm n x e) v = v.0
names-valid (Rpl n x a) v = v.0
names-valid (Cse n t e) v = v.0

verdicts-most : (ms : List Mark) (vs : List ℕ) → AllValid ms → ((j : ℕ) → j < length ms → get_or vs j 0 < 10 ^ verdict_digits) → length (verdict_lines ms vs) ≤ length ms * verdict_room
unfolding verdict_lines
verdicts-most [] vs v h = omega arith
verdicts-most (m ∷ ms) vs v h =
    let l = verdict-most (names m) (get_or vs 0 0) (names-valid m v.0) (h 0 (omega arith)) in
    let k = verdicts-most ms (drop 1 vs) v.1 (λ j i. let e : 1 + j ≡ suc j = omega arith in rw (get_or-drop 1 vs j 0, e) (h (suc j) (omega arith))) in
    simp length-append (omega arith)

number_small : (v : Verdict) → number v < 10 ^ verdict_digits
number_small Accepted = omega arith
number_small Missing = omega arith
number_small Repeated = omega arith
number_small Unfit = omega arith
number_small MayFault = omega arith
number_small Unmet = omega arith

pub judged-most : (P : List Statement) (ms : List Mark) (vs : List ℕ) (Q : List Statement) {u : List ℕ} → Taken u ms → Verdicts P ms vs → length (text Q) ≤ text_bytes
    → length (judged_text ms vs Q) ≤ judged_room
unfolding judged_text
judged-most P ms vs Q t j q =
    let a = counts-most (length ms) (accepted_count ms vs) t.few (count-le (λ i. eqb (get_or vs i 0) 0) (length ms)) in
    let b = verdicts-most ms vs t.spells.valid (λ i h. let e = j i h in rw e.2 (number_small e.0)) in
    simp length-append (omega (arith, t.few, q))
