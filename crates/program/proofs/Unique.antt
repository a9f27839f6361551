-- A text gets one refusal only, and none where it is taken. Assumes nothing.
use mathlib.Core.Path.{◌≡◌, refl}
use mathlib.Core.List.{List}
use Prim.Native.Nat.{ℕ}
use Rattle.lines.proofs.Texts.{spells-unique}
use Rattle.language.specs.declared.Statement.{Statement}
use Rattle.program.specs.Program.{Spells, Taken}
use Rattle.program.specs.Reading.{Refused}
use Rattle.program.specs.declared.Refusal.{Refusal}
use Rattle.program.specs.declared.Refusal.TheVariants.{Misspelled, LineCount, Placement, Target}
use Rattle.program.proofs.Texts.{statements-unambiguous}
use Rattle.program.proofs.RoundTrip.{program-taken}

module _ (t : List ℕ) where
  spelled-unique : {P Q : List Statement} → Spells t P → Spells t Q → P ≡ Q
  spelled-unique a b = spells-unique statements-unambiguous a b

  pub refused-unique : (r s : Refusal) → Refused t r → Refused t s → r ≡ s
  refused-unique Misspelled Misspelled a b = refl
  refused-unique Misspelled LineCount a b = absurd (a b.0 b.1)
  refused-unique Misspelled Placement a b = absurd (a b.0 b.1)
  refused-unique Misspelled Target a b = absurd (a b.0 b.1)
  refused-unique LineCount Misspelled a b = absurd (b a.0 a.1)
  refused-unique LineCount LineCount a b = refl
  refused-unique LineCount Placement a b = absurd (a.2 (rw (spelled-unique b.1 a.1) at b.2))
  refused-unique LineCount Target a b = absurd (a.2 (rw (spelled-unique b.1 a.1) at b.2))
  refused-unique Placement Misspelled a b = absurd (b a.0 a.1)
  refused-unique Placement LineCount a b = absurd (b.2 (rw (spelled-unique a.1 b.1) at a.2))
  refused-unique Placement Placement a b = refl
  refused-unique Placement Target a b = absurd (a.3 (rw (spelled-unique b.1 a.1) at b.3))
  refused-unique Target Misspelled a b = absurd (b a.0 a.1)
  refused-unique Target LineCount a b = absurd (b.2 (rw (spelled-unique a.1 b.1) at a.2))
  refused-unique Target Placement a b = absurd (b.3 (rw (spelled-unique a.1 b.1) at a.3))
  refused-unique Target Target a b = refl

  pub taken_refused : {P : List Statement} → Taken t P → (r : Refusal) → Refused t r → ⊥
  taken_refused a r f = program-taken a.program r (rw a.lines at f)
