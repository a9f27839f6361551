-- A call of `judge` has one answer, and leaves one list of verdict bytes and one new text. Assumes nothing.
use mathlib.Core.Path.{◌≡◌, sym, ap, ◌∙◌}
use mathlib.Core.Logic.{◌⊎◌, ⊎_elim}
use mathlib.Core.List.{List}
use Prim.Native.Nat.{ℕ, ◌+◌, ◌<◌}
use native.Mathlib.Decide.{dec_lt}
use native.Mathlib.Omega.{arith}
use lib.ListN.{length, get_or}
use lib.Seq.{ext_get_or, sets}
use Rattle.language.specs.declared.Statement.{Statement}
use Rattle.program.specs.Program.{text}
use Rattle.program.proofs.RoundTrip.{taken-unique}
use Rattle.marks.specs.Reading as marks
use Rattle.marks.proofs.Lists as marks-unique
use Rattle.rewriting.specs.Verdicts.{accepted_count, Verdicts, Rewritten}
use Rattle.rewriting.proofs.Accepted.{rewritten-unique}
use Rattle.rewriting.proofs.Unique.{verdicts-agree}
use Rattle.calls.proofs.Unique.{refuses-unique, refuses-not, same-refusal}
use Rattle.judge.specs.Judge.{Room, verdict_bytes, text_bytes, Lent, JudgeRefused, JudgeFinished, JudgeAnswers}
use Rattle.std.specs.Prelude.{Result, Ok, Err}
use Rattle.marks.specs.declared.Refusal as marks-refusal
use Rattle.calls.specs.declared.Refusal.{Refusal}
use Rattle.judge.specs.declared.Judged.{Judged}

module _ (t u : List ℕ) (o : Lent) where
  lent-apart : (length o.verdicts < verdict_bytes) ⊎ (length o.new < text_bytes) → Room o.verdicts o.new → ⊥
  lent-apart s e = ⊎_elim (λ h. omega (arith, e.0)) (λ h. omega (arith, e.1)) s

  module _ {m n k i j l : ℕ} {q r : Lent} (a : JudgeFinished t u o q m n k) (b : JudgeFinished t u o r i j l) where
    same-given : b.P ≡ a.P
    same-given = taken-unique b.program a.program

    same-marks : b.ms ≡ a.ms
    same-marks = marks-unique.taken-unique b.marks a.marks

    same_number : m ≡ i
    same_number = a.counted ∙ ap length (sym same-marks) ∙ sym b.counted

    same-verdicts : r.verdicts ≡ q.verdicts
    same-verdicts = ext_get_or 0 r.verdicts q.verdicts (b.same ∙ sym a.same) (λ p _. go p (dec_lt p m))
      where
        judged : Verdicts a.P a.ms r.verdicts
        judged = rw (← same-given, ← same-marks) b.judged

        go : (p : ℕ) → Dec (p < m) → get_or r.verdicts p 0 ≡ get_or q.verdicts p 0
        go p (yes h) = verdicts-agree a.P a.ms r.verdicts q.verdicts judged a.judged p (omega (arith, a.counted))
        go p (no h) = b.kept p (omega (arith, same_number)) ∙ sym (a.kept p (omega arith))

    same-rewritten : b.Q ≡ a.Q
    same-rewritten =
        let rewritten : Rewritten a.P a.ms q.verdicts b.Q = rw (← same-given, ← same-marks, ← same-verdicts) b.rewritten in
        rewritten-unique rewritten a.rewritten

    same_new : r.new ≡ q.new
    same_new = b.written.text ∙ ap (λ (Q : List Statement). sets o.new 0 (text Q)) same-rewritten ∙ sym a.written.text

    same-accepted : n ≡ j
    same-accepted =
        let taken : j ≡ accepted_count a.ms q.verdicts = rw (← same-marks, ← same-verdicts) b.taken in
        a.taken ∙ sym taken

    same_bytes : k ≡ l
    same_bytes = a.written.after ∙ ap (λ (Q : List Statement). 0 + length (text Q)) (sym same-rewritten) ∙ sym b.written.after

    judge-finished : (m ≡ i) × (n ≡ j) × (k ≡ l) × (q ≡ r)
    judge-finished = (same_number, same-accepted, same_bytes, λ x. record { verdicts = sym same-verdicts x; new = sym same_new x })

  judge-refused : (n m : ℕ) → JudgeRefused t u o.verdicts o.new n → JudgeRefused t u o.verdicts o.new m → n ≡ m
  judge-refused = refuses-unique lent-apart t (marks.Refused u) marks.number (marks-unique.refused-unique u)

  judge-not : (n : ℕ) {i j k : ℕ} {q : Lent} → JudgeRefused t u o.verdicts o.new n → JudgeFinished t u o q i j k → ⊥
  judge-not n r f = refuses-not lent-apart t (marks.Refused u) marks.number n r f.room f.program (marks-unique.taken_refused f.marks)

  -- a call of `judge` has one answer, and leaves one list of verdict bytes and one new text
  pub judge-unique : (a b : Result Judged (Refusal marks-refusal.Refusal)) (q r : Lent) → JudgeAnswers t u o q a → JudgeAnswers t u o r b → (a ≡ b) × (q ≡ r)
  judge-unique (Err n) (Err m) q r x y =
      (ap Err (same-refusal marks.number marks-unique.same-number marks-unique.numbers-above n m (judge-refused _ _ x.0 y.0)), x.1 ∙ sym y.1)
  judge-unique (Err n) (Ok b) q r x y = absurd (judge-not _ x.0 y)
  judge-unique (Ok a) (Err m) q r x y = absurd (judge-not _ y.0 x)
  judge-unique (Ok a) (Ok b) q r x y = let f = judge-finished x y in (ap Ok (λ i. record { marks = f.0 i; accepted = f.1 i; bytes = f.2 i }), f.3)
