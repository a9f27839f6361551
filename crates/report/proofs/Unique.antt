-- What is printed for a program and a list is one text only. Assumes nothing.
use mathlib.Core.Path.{◌≡◌, refl, ap, ap₂, sym, ◌∙◌}
use mathlib.Core.Logic.{inl, inr}
use mathlib.Core.List.{List, [], ◌∷◌}
use Prim.Native.Nat.{ℕ, suc, ◌+◌, ◌<◌}
use native.Mathlib.Omega.{arith}
use lib.ListN.{length, drop, get_or}
use lib.Seq.{get_or-drop}
use Rattle.language.specs.declared.Statement.{Statement}
use Rattle.program.specs.Program.{Taken}
use Rattle.program.specs.Reading as program
use Rattle.program.proofs.RoundTrip.{taken-unique}
use Rattle.program.proofs.Unique.{refused-unique, taken_refused}
use Rattle.marks.specs.Reading as marks
use Rattle.marks.specs.declared.Mark.{Mark}
use Rattle.marks.proofs.Lists as marks-lists
use Rattle.rewriting.specs.Verdicts.{Verdicts, Rewritten}
use Rattle.rewriting.proofs.Unique.{verdicts-agree, accepted-agree, rewritten-agree}
use Rattle.report.specs.Report.{refused_line, verdict_lines, judged_text, report_text, Refuses, PrintsReport, Output}

module _ (t u : List ℕ) where
  refuses-unique : {n k : ℕ} → Refuses t u n → Refuses t u k → n ≡ k
  refuses-unique (inl a) (inl b) = a.2 ∙ ap program.number (refused-unique t a.0 b.0 a.1 b.1) ∙ sym b.2
  refuses-unique (inl a) (inr b) = absurd (taken_refused t b.1 a.0 a.1)
  refuses-unique (inr a) (inl b) = absurd (taken_refused t a.1 b.0 b.1)
  refuses-unique (inr a) (inr b) = a.4 ∙ ap marks.number (marks-lists.refused-unique u a.2 b.2 a.3 b.3) ∙ sym b.4

  refuses-taken : {n : ℕ} {P : List Statement} {ms : List Mark} → Refuses t u n → Taken t P → marks.Taken u ms → ⊥
  refuses-taken (inl a) p m = taken_refused t p a.0 a.1
  refuses-taken (inr a) p m = marks-lists.taken_refused m a.2 a.3

-- lists of verdicts that agree on the marks print alike
lines-agree : (ms : List Mark) (vs us : List ℕ) → ((j : ℕ) → j < length ms → get_or vs j 0 ≡ get_or us j 0) → verdict_lines ms vs ≡ verdict_lines ms us
unfolding verdict_lines
lines-agree [] vs us h = refl
lines-agree (m ∷ ms) vs us h =
    let rest = lines-agree ms (drop 1 vs) (drop 1 us) (λ j l. let e : 1 + j ≡ suc j = omega arith in rw (get_or-drop 1 vs j 0, get_or-drop 1 us j 0, e) (h (suc j) (omega arith))) in
    rw (h 0 (omega arith), rest)

module _ (P : List Statement) (ms : List Mark) (vs us : List ℕ) (a : Verdicts P ms vs) (b : Verdicts P ms us) where
  report-agree : {Q R : List Statement} → Rewritten P ms vs Q → Rewritten P ms us R → report_text ms vs P Q ≡ report_text ms us P R
  unfolding report_text judged_text
  report-agree q r = rw (accepted-agree P ms vs us a b, lines-agree ms vs us (verdicts-agree P ms vs us a b), rewritten-agree P ms vs us a b q r)

report-unique : {t u w x : List ℕ} → PrintsReport t u w → PrintsReport t u x → w ≡ x
report-unique a b =
    let p = taken-unique b.program a.program in
    let m = marks-lists.taken-unique b.marks a.marks in
    let judged : Verdicts a.P a.ms b.vs = rw (← p, ← m) b.judged in
    let rewritten : Rewritten a.P a.ms b.vs b.Q = rw (← p, ← m) b.rewritten in
    a.lines ∙ report-agree a.P a.ms a.vs b.vs a.judged judged a.rewritten rewritten
    ∙ ap₂ (λ (ms : List Mark) (P : List Statement). report_text ms b.vs P b.Q) (sym m) (sym p) ∙ sym b.lines

pub output-unique : (t u : List ℕ) {w x : List ℕ} → Output t u w → Output t u x → w ≡ x
output-unique t u (inl a) (inl b) = a.line ∙ ap refused_line (refuses-unique t u a.refuses b.refuses) ∙ sym b.line
output-unique t u (inl a) (inr b) = absurd (refuses-taken t u a.refuses b.program b.marks)
output-unique t u (inr a) (inl b) = absurd (refuses-taken t u b.refuses a.program a.marks)
output-unique t u (inr a) (inr b) = report-unique a b
