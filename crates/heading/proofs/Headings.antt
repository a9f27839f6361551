-- From what `judge` answers to the heading, and what is known of the rewritten program's text. Assumes nothing.
use mathlib.Core.Path.{◌≡◌, refl, ap}
use mathlib.Core.Logic.{inl, inr}
use mathlib.Core.List.{List}
use Prim.Native.Nat.{ℕ, ◌+◌, ◌≤◌, ◌<◌, ◌^◌}
use native.Mathlib.Omega.{arith}
use lib.ListN.{length, length-append}
use Rattle.statement_writer.specs.Writing.{Put}
use Rattle.language.proofs.Lengths.{number-most}
use Rattle.run.specs.Run.{most_steps, budget_number}
use Rattle.judge.specs.Judge.{Room, Lent, JudgeAnswers}
use Rattle.judge.specs.declared.Judged.{Judged}
use Rattle.marks.specs.Reading as marks
use Rattle.marks.specs.declared.Refusal as marks-refusal
use Rattle.calls.specs.Refusals.{number_of}
use Rattle.calls.specs.declared.Refusal.{Refusal}
use Rattle.std.specs.Prelude.{Result, Ok, Err}
use Rattle.report.specs.Report.{counts_line}
use Rattle.report.proofs.Lines.{counts-length}
use Rattle.report.proofs.Reports.{answer-refused, answer-finished}
use Rattle.desk.specs.Refusals.{refusal_text}
use Rattle.refusal_line.specs.Blame.{Blamed}
use Rattle.refusal_line.proofs.Blames.{blamed, no_number}
use Rattle.heading.specs.Heading.{column_heads, heading_text, heading_room, HeadRefused, HeadJudged}

heading-length : (m a : ℕ) → length (heading_text m a) ≡ length (counts_line m a) + 115
unfolding heading_text column_heads
heading-length m a = length-append (counts_line m a) column_heads

pub heading-most : (m a : ℕ) → m < 2 ^ 32 → a < 2 ^ 32 → length (heading_text m a) ≤ heading_room
heading-most m a h k = omega (arith, heading-length m a, counts-length m a, number-most m h, number-most a k)

pub counts-most : (m a : ℕ) → m < 2 ^ 32 → a < 2 ^ 32 → length (counts_line m a) + 115 ≤ heading_room
counts-most m a h k = omega (arith, heading-length m a, heading-most m a h k)

pub budget-refused : {t u o q : List ℕ} {budget n : ℕ} → most_steps < budget → length (refusal_text budget_number 0) ≤ length o
    → Put o 0 (refusal_text budget_number 0) q n → HeadRefused t u budget o q n
budget-refused h fits put =
    record {
      n = budget_number;
      line = 0;
      refused = inl (h, refl);
      blamed = blamed (no_number (λ e. omega (arith, e)) (λ e. omega (arith, e)) (λ e. omega (arith, e)) (λ e. omega (arith, e)) (λ e. omega (arith, e)));
      fits = fits;
      put = put;
    }

module _ (t u : List ℕ) (budget : ℕ) (lent left : Lent) {r : Result Judged (Refusal marks-refusal.Refusal)} (a : JudgeAnswers t u lent left r) (allowed : budget ≤ most_steps) {o q : List ℕ} {n : ℕ} where
  pub head-refused : {f : Refusal marks-refusal.Refusal} (m line : ℕ) → r ≡ Err f → m ≡ number_of marks.number f → Room lent.verdicts lent.new → Blamed t u m line → length (refusal_text m line) ≤ length o → Put o 0 (refusal_text m line) q n
      → HeadRefused t u budget o q n × (left.new ≡ lent.new)
  head-refused m line is e room about fits put =
      (record { n = m; line = line; refused = inr (allowed, answer-refused t u lent left a is e room); blamed = about; fits = fits; put = put }, ap (λ (x : Lent). x.new) (rw is at a).1)

  pub head-judged : (j : Judged) → r ≡ Ok j → length (heading_text j.marks j.accepted) ≤ length o → Put o 0 (heading_text j.marks j.accepted) q n
      → HeadJudged t u budget lent.new left.new o q n j.bytes
  head-judged j is fits put =
      record {
        count = j.marks;
        accepted = j.accepted;
        lent = lent;
        left = left;
        before = refl;
        after = refl;
        allowed = allowed;
        judged = answer-finished t u lent left a is;
        fits = fits;
        put = put;
      }
