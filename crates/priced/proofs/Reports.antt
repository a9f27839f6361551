-- From what `judge` answers to the two programs whose prices are listed. Assumes nothing.
use mathlib.Core.Logic.{inl, inr, ⊎_elim}
use mathlib.Core.List.{List}
use Prim.Native.Nat.{ℕ, ◌≤◌}
use native.Mathlib.Omega.{arith}
use lib.ListN.{length, take}
use Rattle.language.specs.declared.Statement.{Statement}
use Rattle.program.specs.Program.{Taken}
use Rattle.program.proofs.RoundTrip.{taken-unique}
use Rattle.statement_writer.proofs.Puts.{put-within}
use Rattle.marks.proofs.Lists as marks-lists
use Rattle.rewriting.specs.Verdicts.{Rewritten}
use Rattle.rewriting.proofs.Accepted.{rewritten-unique}
use Rattle.judge.specs.Judge.{Room, Lent, JudgeRefused, JudgeFinished}
use Rattle.pricing.specs.Prices.{in_force}
use Rattle.price_list.specs.PriceList.{Lists, Both}
use Rattle.price_list.specs.declared.PriceList.{PriceList}
use Rattle.priced.specs.Priced.{ReportRefused, ReportListed}

-- with room lent, 1 does not apply
pub refused-report : {t u : List ℕ} (vs w : List ℕ) {n : ℕ} → Room vs w → JudgeRefused t u vs w n → ReportRefused t u n
refused-report vs w r (inl h) = ⊎_elim (λ l. absurd (omega arith)) (λ l. absurd (omega arith)) h.0
refused-report vs w r (inr (inl h)) = inr (inl (tt, h.1, h.2, h.3))
refused-report vs w r (inr (inr h)) = inr (inr (tt, h.1, h.2, h.3, h.4, h.5))

module _ {t u : List ℕ} {o q : Lent} {count accepted bytes : ℕ} (f : JudgeFinished t u o q count accepted bytes) where
  pub new-within : bytes ≤ length q.new
  new-within = put-within f.written f.fits

  -- the new text is taken as the rewritten program
  pub new-taken : Taken (take bytes q.new) f.Q
  new-taken =
      let d = f.demand in
      let p = taken-unique d.given f.program in
      let m = marks-lists.taken-unique d.listed f.marks in
      let made : Rewritten f.P f.ms q.verdicts d.Q = rw (← p, ← m) d.rewritten in
      rw (← rewritten-unique made f.rewritten) d.taken

  pub both-taken : Both t (take bytes q.new)
  both-taken = record { P = f.P; Q = f.Q; given = f.program; new = new-taken; same = f.rewritten.same }

  pub report-listed : {ps : List ℕ} {l : PriceList} → ((P Q : List Statement) → Taken t P → Taken (take bytes q.new) Q → Lists (in_force ps) P Q l) → ReportListed ps t u l
  report-listed h =
      record {
        P = f.P;
        ms = f.ms;
        vs = q.verdicts;
        Q = f.Q;
        program = f.program;
        marks = f.marks;
        judged = f.judged;
        rewritten = f.rewritten;
        listed = h f.P f.Q f.program new-taken;
      }
