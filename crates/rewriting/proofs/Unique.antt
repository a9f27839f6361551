-- A mark gets one verdict only, so the verdict bytes of a list and the rewritten program are one only. Assumes nothing.
use mathlib.Core.Path.{◌≡◌, refl, ap, sym, ◌∙◌}
use mathlib.Core.List.{List}
use Prim.Native.Nat.{ℕ, ◌<◌}
use lib.Dec.{eqb}
use lib.ListN.{length, take, get_or}
use Rattle.language.specs.declared.Statement.{Statement}
use Rattle.bits.proofs.Counts.{count-ext}
use Rattle.marks.specs.declared.Mark.{Mark}
use Rattle.marks.specs.Marks.{mark_at}
use Rattle.rewriting.specs.Verdicts.{number, Judged, Widened, Verdicts, accepted_count, Rewritten}
use Rattle.rewriting.specs.declared.Verdict.{Verdict}
use Rattle.rewriting.specs.declared.Verdict.TheVariants.{Accepted, Missing, Repeated, Unfit, MayFault, Unmet}
use Rattle.rewriting.proofs.Accepted.{rewritten-unique}

-- a mark gets one verdict only
module _ (U : ℕ → ℕ → Type 0) (P : List Statement) (earlier : List Mark) (m : Mark) where
  pub verdict-unique : (v w : Verdict) → Judged U P earlier m v → Judged U P earlier m w → v ≡ w
  verdict-unique Missing Missing a b = refl
  verdict-unique Missing Repeated a b = absurd (a b.0)
  verdict-unique Missing Unfit a b = absurd (a b.0)
  verdict-unique Missing MayFault a b = absurd (a b.0)
  verdict-unique Missing Unmet a b = absurd (a b.0)
  verdict-unique Missing Accepted a b = absurd (a b.0)
  verdict-unique Repeated Missing a b = absurd (b a.0)
  verdict-unique Repeated Repeated a b = refl
  verdict-unique Repeated Unfit a b = absurd (b.1 a.1)
  verdict-unique Repeated MayFault a b = absurd (b.1 a.1)
  verdict-unique Repeated Unmet a b = absurd (b.1 a.1)
  verdict-unique Repeated Accepted a b = absurd (b.1 a.1)
  verdict-unique Unfit Missing a b = absurd (b a.0)
  verdict-unique Unfit Repeated a b = absurd (a.1 b.1)
  verdict-unique Unfit Unfit a b = refl
  verdict-unique Unfit MayFault a b = absurd (a.2 b.2)
  verdict-unique Unfit Unmet a b = absurd (a.2 b.2)
  verdict-unique Unfit Accepted a b = absurd (a.2 b.2)
  verdict-unique MayFault Missing a b = absurd (b a.0)
  verdict-unique MayFault Repeated a b = absurd (a.1 b.1)
  verdict-unique MayFault Unfit a b = absurd (b.2 a.2)
  verdict-unique MayFault MayFault a b = refl
  verdict-unique MayFault Unmet a b = absurd (a.3 b.3)
  verdict-unique MayFault Accepted a b = absurd (a.3 b.3)
  verdict-unique Unmet Missing a b = absurd (b a.0)
  verdict-unique Unmet Repeated a b = absurd (a.1 b.1)
  verdict-unique Unmet Unfit a b = absurd (b.2 a.2)
  verdict-unique Unmet MayFault a b = absurd (b.3 a.3)
  verdict-unique Unmet Unmet a b = refl
  verdict-unique Unmet Accepted a b = absurd (a.4 b.4)
  verdict-unique Accepted Missing a b = absurd (b a.0)
  verdict-unique Accepted Repeated a b = absurd (a.1 b.1)
  verdict-unique Accepted Unfit a b = absurd (b.2 a.2)
  verdict-unique Accepted MayFault a b = absurd (b.3 a.3)
  verdict-unique Accepted Unmet a b = absurd (b.4 a.4)
  verdict-unique Accepted Accepted a b = refl

module _ (P : List Statement) (ms : List Mark) (vs us : List ℕ) (a : Verdicts P ms vs) (b : Verdicts P ms us) where
  -- on the marks the bytes agree
  pub verdicts-agree : (j : ℕ) → j < length ms → get_or vs j 0 ≡ get_or us j 0
  verdicts-agree j l =
      let v = a j l in
      let w = b j l in
      v.2 ∙ ap number (verdict-unique (Widened P ms) P (take j ms) (mark_at ms j) v.0 w.0 v.1 w.1) ∙ sym w.2

  pub accepted-agree : accepted_count ms vs ≡ accepted_count ms us
  accepted-agree = count-ext (λ j. eqb (get_or vs j 0) 0) (λ j. eqb (get_or us j 0) 0) (length ms) (λ j l. ap (λ (v : ℕ). eqb v 0) (verdicts-agree j l))

  pub rewritten-agree : {Q R : List Statement} → Rewritten P ms vs Q → Rewritten P ms us R → Q ≡ R
  rewritten-agree q r = rewritten-unique q (record {
    same = r.same;
    made = λ j h. r.made j (h.0, sym (verdicts-agree j h.0) ∙ h.1);
    kept = λ s l none. r.kept s l (λ j h e. none j (h.0, verdicts-agree j h.0 ∙ h.1) e);
  })
