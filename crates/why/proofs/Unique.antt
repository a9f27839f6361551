-- A call of `why` has one verdict byte, one length and one path that is as short; where the path is the same, so is the culprit. Assumes nothing.
use mathlib.Core.Path.{◌≡◌, sym, ap, ◌∙◌, subst}
use mathlib.Core.Logic.{inl, inr}
use mathlib.Core.List.{List}
use Prim.Native.Nat.{ℕ, suc, ◌+◌, ◌-◌, ◌≤◌, ◌<◌}
use native.Mathlib.Omega.{arith}
use lib.ListN.{length, get_or, take}
use Rattle.language.specs.declared.Statement.{Statement}
use Rattle.program.proofs.RoundTrip.{taken-unique}
use Rattle.lassos.specs.Lassos.{place, last}
use Rattle.marks.specs.Reading as marks
use Rattle.marks.specs.Marks.{mark_at}
use Rattle.marks.specs.declared.Mark.{Mark}
use Rattle.marks.specs.declared.Refusal as marks-refusal
use Rattle.marks.proofs.Lists as marks-unique
use Rattle.rewriting.specs.Verdicts.{number, Widened}
use Rattle.rewriting.specs.declared.Verdict.{Verdict}
use Rattle.rewriting.specs.declared.Verdict.TheVariants.{Accepted, Missing, Repeated, Unfit, MayFault, Unmet}
use Rattle.rewriting.proofs.Unique.{verdict-unique}
use Rattle.std.specs.Prelude.{Result, Ok, Err}
use Rattle.calls.specs.Refusals.{number_of}
use Rattle.calls.specs.declared.Refusal.{Refusal}
use Rattle.calls.proofs.Unique.{refuses-unique, refuses-not, same-refusal}
use Rattle.explain.specs.Explain.{path_words}
use Rattle.refused_marks.specs.RefusedMarks.{Culprit, PathOf}
use Rattle.refused_marks.proofs.Culprits.{culprit-unique}
use Rattle.why.specs.Why.{WhyRefused, LineVerdict, BecauseOf, WhyTold, WhyAnswers}
use Rattle.why.specs.declared.Because.{Because}

-- ---- the verdict

line-verdict-unique : (P : List Statement) (ms : List Mark) (j : ℕ) (v w : Verdict) → LineVerdict P ms j v → LineVerdict P ms j w → v ≡ w
line-verdict-unique P ms j v w (inl a) (inl b) = verdict-unique (Widened P ms) P (take j ms) (mark_at ms j) v w a.1 b.1
line-verdict-unique P ms j v w (inl a) (inr b) = absurd (omega (arith, a.0, b.0))
line-verdict-unique P ms j v w (inr a) (inl b) = absurd (omega (arith, a.0, b.0))
line-verdict-unique P ms j v w (inr a) (inr b) = a.1 ∙ sym b.1

-- ---- the path

module _ {U : ℕ → ℕ → Type 0} {P : List Statement} {m : Mark} {old new : List ℕ} {k c : ℕ} (a : PathOf U P m old new k c) where
  length-unique : {other : List ℕ} {l d : ℕ} → PathOf U P m old other l d → k ≡ l
  length-unique {other} {l} {d} b = omega (arith, a.counted, b.counted, a.shortest d b.ls b.shown, b.shortest c a.ls a.shown)

  -- the last word tells the place of the culprit
  last_word : get_or new (k - 1) 0 ≡ suc (place a.ls (last a.ls))
  last_word = let e : k - 1 ≡ 0 + last a.ls = omega (arith, a.counted) in rw e (a.told.words (last a.ls) (omega (arith, a.shown.leaves)))

same-culprit : {U : ℕ → ℕ → Type 0} {P : List Statement} {m : Mark} {old new : List ℕ} {k l c d : ℕ} → PathOf U P m old new k c → PathOf U P m old new l d → c ≡ d
same-culprit {U} {P} {m} {old} {new} {k} {l} {c} {d} a b =
    let e : k - 1 ≡ l - 1 = ap (λ (i : ℕ). i - 1) (length-unique a b) in
    let f : place b.ls (last b.ls) ≡ place a.ls (last a.ls) = omega (arith, last_word a, last_word b, ap (λ (i : ℕ). get_or new i 0) e) in
    culprit-unique U P m (place a.ls (last a.ls)) c d a.shown.ends (subst (λ (t : ℕ). Culprit U P m t d) f b.shown.ends)

-- ---- the answer

module _ (P : List Statement) (ms : List Mark) (j : ℕ) (old : List ℕ) where
  told-length : (new other : List ℕ) (k l c d : ℕ) (v : Verdict) → BecauseOf P ms j v old new k c → BecauseOf P ms j v old other l d → k ≡ l
  told-length new other k l c d Accepted a b = a.0 ∙ sym b.0
  told-length new other k l c d Missing a b = a.0 ∙ sym b.0
  told-length new other k l c d Repeated a b = a.0 ∙ sym b.0
  told-length new other k l c d Unfit a b = a.0 ∙ sym b.0
  told-length new other k l c d MayFault a b = a.0 ∙ sym b.0
  told-length new other k l c d Unmet a b = length-unique a b

  told-culprit : (new : List ℕ) (k l c d : ℕ) (v : Verdict) → BecauseOf P ms j v old new k c → BecauseOf P ms j v old new l d → c ≡ d
  told-culprit new k l c d Accepted a b = a.1 ∙ sym b.1
  told-culprit new k l c d Missing a b = a.1 ∙ sym b.1
  told-culprit new k l c d Repeated a b = a.1 ∙ sym b.1
  told-culprit new k l c d Unfit a b = a.1 ∙ sym b.1
  told-culprit new k l c d MayFault a b = a.1 ∙ sym b.1
  told-culprit new k l c d Unmet a b = same-culprit a b

-- what two answers share: the refusal, or the verdict byte and the length
abbrev pub Alike : Result Because (Refusal marks-refusal.Refusal) → Result Because (Refusal marks-refusal.Refusal) → Type 0
Alike (Err r) (Err s) = r ≡ s
Alike (Err r) (Ok a) = ⊥
Alike (Ok a) (Err r) = ⊥
Alike (Ok a) (Ok b) = (a.verdict ≡ b.verdict) × (a.length ≡ b.length)

module _ (t u : List ℕ) (j : ℕ) (old : List ℕ) where
  module _ {new other : List ℕ} {b e k l c d : ℕ} (x : WhyTold t u j old new b k c) (y : WhyTold t u j old other e l d) where
    same-program : y.P ≡ x.P
    same-program = taken-unique y.program x.program

    same-marks : y.ms ≡ x.ms
    same-marks = marks-unique.taken-unique y.marks x.marks

    same-verdict : y.v ≡ x.v
    same-verdict = line-verdict-unique x.P x.ms j y.v x.v (rw (same-program, same-marks) at y.judged) x.judged

    same-told : BecauseOf x.P x.ms j x.v old other l d
    same-told = rw (same-program, same-marks, same-verdict) at y.told

    told-alike : (b ≡ e) × (k ≡ l)
    told-alike = (x.byte ∙ ap number (sym same-verdict) ∙ sym y.byte, told-length x.P x.ms j old new other k l c d x.v x.told same-told)

  apart : length old < path_words → path_words ≤ length old → ⊥
  apart a b = omega arith

  why-refused : (n m : ℕ) → WhyRefused t u old n → WhyRefused t u old m → n ≡ m
  why-refused = refuses-unique apart t (marks.Refused u) marks.number (marks-unique.refused-unique u)

  why-not : (n : ℕ) {new : List ℕ} {b k c : ℕ} → WhyRefused t u old n → WhyTold t u j old new b k c → ⊥
  why-not n r f = refuses-not apart t (marks.Refused u) marks.number n r f.room f.program (marks-unique.taken_refused f.marks)

  -- a call of `why` has one refusal, or one verdict byte and one length
  pub why-unique : (a b : Result Because (Refusal marks-refusal.Refusal)) (new other : List ℕ) → WhyAnswers t u j old new a → WhyAnswers t u j old other b → Alike a b
  why-unique (Err r) (Err s) new other x y =
      same-refusal marks.number marks-unique.same-number marks-unique.numbers-above r s (why-refused (number_of marks.number r) (number_of marks.number s) x.0 y.0)
  why-unique (Err r) (Ok b) new other x y = why-not (number_of marks.number r) x.0 y
  why-unique (Ok a) (Err s) new other x y = why-not (number_of marks.number s) y.0 x
  why-unique (Ok a) (Ok b) new other x y = told-alike x y

  -- and one culprit for each path
  pub culprit-one : (new : List ℕ) (a b : Because) → WhyAnswers t u j old new (Ok a) → WhyAnswers t u j old new (Ok b) → a.culprit ≡ b.culprit
  culprit-one new a b x y = told-culprit x.P x.ms j old new a.length b.length a.culprit b.culprit x.v x.told (same-told x y)
