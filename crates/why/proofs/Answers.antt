-- From the verdict of a line, and the path where it is 14, to what `why` answers. Assumes nothing.
use mathlib.Core.Path.{◌≡◌, refl, sym, ◌∙◌, subst}
use mathlib.Core.Logic.Iff
use mathlib.Core.Logic.{inl, inr}
use mathlib.Core.List.{List}
use Prim.Native.Nat.{ℕ, ◌≤◌, ◌<◌}
use native.Mathlib.Omega.{arith}
use lib.ListN.{length, take}
use Rattle.language.specs.Spelling.{ValidVariable}
use Rattle.language.specs.declared.Statement.{Statement}
use Rattle.program.specs.Program.{Taken, most}
use Rattle.bits.specs.Row.{member}
use Rattle.labelling.specs.Labels.{Labelled}
use Rattle.truth.specs.Truth.{uses_of}
use Rattle.atoms.specs.Facts.{used_in}
use Rattle.table.specs.Known.{KnownBy, Known}
use Rattle.marks.specs.Marks.{ValidMark, names, mark_at}
use Rattle.marks.specs.Reading as marks
use Rattle.marks.specs.declared.Mark.{Mark}
use Rattle.marks.specs.declared.Mark.TheVariants.{Rm, Rpl, Cse}
use Rattle.marks.proofs.Walk.{at-valid}
use Rattle.rewriting.specs.Verdicts.{number, Inside, place, Judged, Widened}
use Rattle.rewriting.specs.declared.Verdict.{Verdict}
use Rattle.rewriting.specs.declared.Verdict.TheVariants.{Accepted, Missing, Repeated, Unfit, MayFault, Unmet}
use Rattle.explain.specs.Explain.{path_words}
use Rattle.refused_marks.specs.RefusedMarks.{PathOf}
use Rattle.refused_paths.specs.Searching.{variable_of, Rowed, Refused}
use Rattle.why.specs.Why.{BecauseOf, WhyTold}
use Rattle.why.specs.Lines.{MarkOfLine}

-- ---- the verdict

-- a verdict other than 14 comes with no path
quiet : (P : List Statement) (ms : List Mark) (j : ℕ) (ws : List ℕ) (v : Verdict) → (number v ≡ 14 → ⊥) → BecauseOf P ms j v ws ws 0 0
quiet P ms j ws Accepted h = (refl, refl, refl)
quiet P ms j ws Missing h = (refl, refl, refl)
quiet P ms j ws Repeated h = (refl, refl, refl)
quiet P ms j ws Unfit h = (refl, refl, refl)
quiet P ms j ws MayFault h = (refl, refl, refl)
quiet P ms j ws Unmet h = absurd (h refl)

unmet-only : (v : Verdict) → number v ≡ 14 → v ≡ Unmet
unmet-only Accepted h = absurd (omega arith)
unmet-only Missing h = absurd (omega arith)
unmet-only Repeated h = absurd (omega arith)
unmet-only Unfit h = absurd (omega arith)
unmet-only MayFault h = absurd (omega arith)
unmet-only Unmet h = refl

-- ---- the mark

variable-valid : (m : Mark) → ValidMark m → ValidVariable (variable_of m)
variable-valid (Rm n x e) v = v.1
variable-valid (Rpl n x a) v = v.1
variable-valid (Cse n x e) v = v.1

module _ {u : List ℕ} {j : ℕ} {m : Mark} (l : MarkOfLine u j m) where
  pub line-few : j < marks.most
  line-few = omega (arith, l.inside, l.taken.few)

  line-valid : ValidMark m
  line-valid = rw l.is (at-valid l.ms j _ l.taken.spells.valid l.inside)

  pub line-variable : ValidVariable (variable_of m)
  line-variable = variable-valid m line-valid

  -- ---- what the search is asked

  module _ (P : List Statement) where
    -- the row of the atom `use`, by the program's own uses
    pub own_uses : {n : ℕ} {rows : List ℕ} {codes : List (List ℕ)} {flow : List ℕ} → Known P n rows codes flow → (own : List ℕ) (x : ℕ) → x ≡ variable_of m → Labelled n (member own) (used_in rows x) → Rowed n own (uses_of P (variable_of m))
    own_uses k own x is y = record { exact = λ t b. Iff.trans ((rw is at y).exact t b) ((k.found.used (variable_of m) line-variable).exact t (omega (arith, k.size))); beyond = y.beyond }

    module _ (v : Verdict) (judged : Judged (Widened P l.ms) P (take j l.ms) (mark_at l.ms j) v) (byte : number v ≡ 14) where
      unmet : Judged (Widened P l.ms) P (take j l.ms) m Unmet
      unmet = rw l.is (subst (λ (w : Verdict). Judged (Widened P l.ms) P (take j l.ms) (mark_at l.ms j) w) (unmet-only v byte) judged)

      pub refusal : {n : ℕ} {rows : List ℕ} {codes : List (List ℕ)} {flow : List ℕ} → KnownBy (Widened P l.ms) P n rows codes flow → (own : List ℕ) → Rowed n own (uses_of P (variable_of m)) → Refused P l.ms m n rows codes flow own
      refusal k own y = record { known = k; valid = line-valid; inside = omega (arith, k.size, unmet.0.0, unmet.0.1); unmet = unmet.4; uses = y }

      pub refusal-place : length P ≤ most → (s : ℕ) → (Inside most (names m) → s ≡ place m) → s ≡ place m
      refusal-place few s f = f (unmet.0.0, omega (arith, few, unmet.0.1))

-- ---- the answer

module _ {t u : List ℕ} {P : List Statement} {j : ℕ} {old : List ℕ} (room : path_words ≤ length old) (program : Taken t P) where
  -- there is no such line
  pub told-missing : {ms : List Mark} → marks.Taken u ms → length ms ≤ j → (b : ℕ) → b ≡ number Missing → WhyTold t u j old old b 0 0
  told-missing {ms} taken h b e = record { P = P; ms = ms; v = Missing; room = room; program = program; marks = taken; judged = inr (h, refl); byte = e; told = (refl, refl, refl) }

  module _ {m : Mark} (l : MarkOfLine u j m) (v : Verdict) (judged : Judged (Widened P l.ms) P (take j l.ms) (mark_at l.ms j) v) (b : ℕ) (byte : b ≡ number v) where
    pub told-other : (b ≡ 14 → ⊥) → WhyTold t u j old old b 0 0
    told-other h = record {
      P = P;
      ms = l.ms;
      v = v;
      room = room;
      program = program;
      marks = l.taken;
      judged = inl (l.inside, judged);
      byte = byte;
      told = quiet P l.ms j old v (λ e. h (byte ∙ e));
    }

    pub told-path : b ≡ 14 → {new : List ℕ} {k c : ℕ} → PathOf (Widened P l.ms) P m old new k c → WhyTold t u j old new b k c
    told-path h {new} {k} {c} p = record {
      P = P;
      ms = l.ms;
      v = v;
      room = room;
      program = program;
      marks = l.taken;
      judged = inl (l.inside, judged);
      byte = byte;
      told = subst (λ (w : Verdict). BecauseOf P l.ms j w old new k c) (sym (unmet-only v (sym byte ∙ h))) (rw l.is at p);
    }
