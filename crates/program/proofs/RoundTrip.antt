-- Reading what was written gives the same program, and a taken text is that of one program. Assumes nothing.
use mathlib.Core.Path.{◌≡◌, refl, sym, ◌∙◌}
use mathlib.Core.List.{List}
use Prim.Native.Nat.{ℕ}
use Rattle.lines.proofs.Texts.{text-unique}
use Rattle.language.specs.declared.Statement.{Statement}
use Rattle.std.specs.Prelude.{Result, Ok, Err}
use Rattle.program.specs.declared.Program.{Program}
use Rattle.program.specs.declared.Refusal.{Refusal}
use Rattle.program.specs.declared.Refusal.TheVariants.{Misspelled, LineCount, Placement, Target}
use Rattle.program.specs.Program.{text, WellFormed, Taken}
use Rattle.program.specs.Reading.{Refused, statements, ProgramRead}
use Rattle.program.proofs.Texts.{statements-unambiguous}

-- a text is taken as one program only
pub taken-unique : {t : List ℕ} {P Q : List Statement} → Taken t P → Taken t Q → P ≡ Q
taken-unique {P = P} {Q = Q} a b = text-unique statements-unambiguous P Q a.program.valid b.program.valid (sym a.lines ∙ b.lines)

-- the text of a program gets no refusal
pub program-taken : {P : List Statement} → WellFormed P → (r : Refusal) → Refused (text P) r → ⊥
program-taken {P = P} w Misspelled f = f P (record { lines = refl; valid = w.valid })
program-taken {P = P} w LineCount f = f.2 (rw (text-unique statements-unambiguous P f.0 w.valid f.1.valid f.1.lines) at w.counted)
program-taken {P = P} w Placement f = f.3 (rw (text-unique statements-unambiguous P f.0 w.valid f.1.valid f.1.lines) at w.placed)
program-taken {P = P} w Target f = f.4 (rw (text-unique statements-unambiguous P f.0 w.valid f.1.valid f.1.lines) at w.aimed)

-- whatever is read from the text of a program is that program
pub read-written : {P : List Statement} → WellFormed P → (r : Result Program Refusal) → ProgramRead (text P) r → (p : Program) × (r ≡ Ok p) × (statements p ≡ P)
read-written w (Ok p) r = (p, refl, taken-unique r.0 (record { lines = refl; program = w }))
read-written w (Err f) r = absurd (program-taken w f r)
