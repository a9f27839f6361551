-- A text is the lines of one list of marks only, and a list that is taken gets no refusal. Assumes nothing.
use mathlib.Core.Path.{◌≡◌, refl, ap, ◌∙◌}
use mathlib.Core.List.{List}
use Prim.Native.Nat.{ℕ, ◌<◌}
use native.Mathlib.Omega.{arith}
use lib.ListN.{length}
use Rattle.std.specs.Prelude.{Result, Ok, Err}
use Rattle.lines.proofs.Texts.{spells-unique}
use Rattle.marks.specs.declared.Mark.{Mark}
use Rattle.marks.specs.declared.Refusal.{Refusal}
use Rattle.marks.specs.declared.Refusal.TheVariants.{Misspelled, LineCount}
use Rattle.marks.specs.Marks.{Spells}
use Rattle.marks.specs.Reading.{Refused, Taken, ListRead, number}
use Rattle.marks.proofs.Spelling.{marks-unambiguous}

-- a text is the lines of one list of valid marks only
pub marks-unique : {t : List ℕ} {ms os : List Mark} → Spells t ms → Spells t os → ms ≡ os
marks-unique a b = spells-unique marks-unambiguous a b

-- a text is taken as one list only
pub taken-unique : {t : List ℕ} {ms os : List Mark} → Taken t ms → Taken t os → ms ≡ os
taken-unique a b = marks-unique a.spells b.spells

-- a list that is taken gets no refusal
pub taken_refused : {t : List ℕ} {ms : List Mark} → Taken t ms → (r : Refusal) → Refused t r → ⊥
taken_refused {ms = ms} a Misspelled f = f ms a.spells
taken_refused a LineCount f = omega (arith, a.few, ap length (marks-unique a.spells f.1))

-- a text gets one refusal only
pub refused-unique : (t : List ℕ) (r s : Refusal) → Refused t r → Refused t s → r ≡ s
refused-unique t Misspelled Misspelled a b = refl
refused-unique t Misspelled LineCount a b = absurd (a b.0 b.1)
refused-unique t LineCount Misspelled a b = absurd (b a.0 a.1)
refused-unique t LineCount LineCount a b = refl

-- a number is that of one refusal only, and above those of a program
pub same-number : (r s : Refusal) → number r ≡ number s → r ≡ s
same-number Misspelled Misspelled e = refl
same-number Misspelled LineCount e = absurd (omega (arith, e))
same-number LineCount Misspelled e = absurd (omega (arith, e))
same-number LineCount LineCount e = refl

pub numbers-above : (r : Refusal) → 5 < number r
numbers-above Misspelled = omega arith
numbers-above LineCount = omega arith

-- whatever is answered of a list that is taken is its number of marks
pub taken-checked : {t : List ℕ} {ms : List Mark} → Taken t ms → (c : Result ℕ Refusal) → ListRead t c → c ≡ Ok (length ms)
taken-checked a (Ok n) l = ap Ok (l.2 ∙ ap length (taken-unique l.1 a))
taken-checked a (Err r) l = absurd (taken_refused a r l)
