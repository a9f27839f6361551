-- From the line told to the line that the refusal is about. Assumes nothing.
use mathlib.Core.Path.{◌≡◌, refl, sym, ◌∙◌}
use mathlib.Core.Bool.{Bool, true, false}
use mathlib.Core.List.{List}
use Prim.Native.Nat.{ℕ}
use native.Mathlib.Omega.{arith}
use lib.Dec.{eqb}
use borrow.Author.Tests.{eqb-true, eqb-false}
use Rattle.program.specs.Reading as program
use Rattle.program.specs.declared.Refusal as program-refusal
use Rattle.program.specs.declared.Refusal.TheVariants as refusal
use Rattle.marks.specs.Reading as marks
use Rattle.marks.specs.declared.Refusal.{Refusal}
use Rattle.marks.specs.declared.Refusal.TheVariants.{Misspelled, LineCount}
use Rattle.blame.specs.Blame as blame
use Rattle.blame.proofs.Blames as program-blames
use Rattle.mark_blame.specs.Blame as mark-blame
use Rattle.mark_blame.proofs.Blames as mark-blames
use Rattle.refusal_line.specs.Blame.{NumberTold, Blamed}

-- no refusal of a program has a number of the marks' refusals
apart : (n : ℕ) (r : program-refusal.Refusal) (s : Refusal) → n ≡ program.number r → n ≡ marks.number s → ⊥
apart n refusal.Misspelled Misspelled a b = omega arith
apart n refusal.Misspelled LineCount a b = omega arith
apart n refusal.LineCount Misspelled a b = omega arith
apart n refusal.LineCount LineCount a b = omega arith
apart n refusal.Placement Misspelled a b = omega arith
apart n refusal.Placement LineCount a b = omega arith
apart n refusal.Target Misspelled a b = omega arith
apart n refusal.Target LineCount a b = omega arith

module _ {t u : List ℕ} {n line : ℕ} (w : NumberTold t u n line) where
  of-marks : (r : Refusal) → n ≡ marks.number r → marks.Refused u r → mark-blame.Blames u r line
  of-marks Misspelled e f = mark-blames.blames (w.listed e) Misspelled f
  of-marks LineCount e f = (w.told (λ i. omega arith)).other (λ r i. apart n r LineCount i e)

  of_none : ((r : program-refusal.Refusal) → n ≡ program.number r → ⊥) → ((r : Refusal) → n ≡ marks.number r → ⊥) → line ≡ 0
  of_none a b = (w.told (b Misspelled)).other a

  pub blamed : Blamed t u n line
  blamed =
      record {
        about = λ r e f. program-blames.blames ((w.told (λ i. apart n r Misspelled e i)).told r e) f;
        listed = of-marks;
        other = of_none;
      }

-- numbers of other refusals
pub no_number : {t u : List ℕ} {n : ℕ} → (n ≡ 2 → ⊥) → (n ≡ 3 → ⊥) → (n ≡ 4 → ⊥) → (n ≡ 5 → ⊥) → (n ≡ 9 → ⊥) → NumberTold t u n 0
no_number a b c d e = record { listed = λ i. absurd (e i); told = λ _. program-blames.no_number a b c d }
