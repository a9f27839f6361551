-- A text is taken as one condition only, gets one refusal only, and none where it is taken. Assumes nothing.
use mathlib.Core.Path.{◌≡◌, refl, ap}
use mathlib.Core.List.{List}
use Prim.Native.Nat.{ℕ}
use native.Mathlib.Omega.{arith}
use lib.ListN.{length}
use Rattle.condition.specs.Condition.{Condition, parts}
use Rattle.condition_reader.specs.Reading.{Refused}
use Rattle.condition.specs.Texts.{Taken}
use Rattle.condition_reader.specs.declared.Refusal.{Refusal}
use Rattle.condition_reader.specs.declared.Refusal.TheVariants.{Length, Misspelled, PartCount}
use Rattle.condition_reader.proofs.Spelling.{condition-unique}

pub taken-unique : {t : List ℕ} {c d : Condition} → Taken t c → Taken t d → c ≡ d
taken-unique {t} {c} {d} a b = condition-unique t c d a.spells b.spells

pub taken_refused : {t : List ℕ} {c : Condition} → Taken t c → (r : Refusal) → Refused t r → ⊥
taken_refused a Length f = omega (arith, a.short)
taken_refused {c = c} a Misspelled f = f.1 c a.spells
taken_refused {t} {c} a PartCount f = omega (arith, a.few, ap (λ (d : Condition). length (parts d)) (condition-unique t c f.1 a.spells f.2))

pub refused-unique : (t : List ℕ) (r s : Refusal) → Refused t r → Refused t s → r ≡ s
refused-unique t Length Length a b = refl
refused-unique t Length Misspelled a b = absurd (omega (arith, b.0))
refused-unique t Length PartCount a b = absurd (omega (arith, b.0))
refused-unique t Misspelled Length a b = absurd (omega (arith, a.0))
refused-unique t Misspelled Misspelled a b = refl
refused-unique t Misspelled PartCount a b = absurd (a.1 b.1 b.2)
refused-unique t PartCount Length a b = absurd (omega (arith, a.0))
refused-unique t PartCount Misspelled a b = absurd (b.1 a.1 a.2)
refused-unique t PartCount PartCount a b = refl
