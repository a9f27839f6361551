-- P's text is taken as a program: its eight statements. Assumes nothing.
use mathlib.Core.Path.{refl}
use mathlib.Core.List.{List, [], ◌∷◌}
use Prim.Native.Nat.{ℕ, zero, suc, ◌<◌}
use native.Mathlib.Nat.{not-suc-le-zero}
use borrow.Author.Rules.{rules}
use Rattle.lines.specs.Lines as lines
use Rattle.language.specs.declared.Operand.TheVariants.{Variable, Constant}
use Rattle.language.specs.declared.Operator.TheVariants.{Add, Subtract}
use Rattle.language.specs.declared.Expression.TheVariants.{Single, Binary}
use Rattle.language.specs.declared.Statement.{Statement}
use Rattle.language.specs.declared.Statement.TheVariants.{Read, Write, Assign, Branch}
use Rattle.language.specs.Spelling.{digits_by, signed_digits, digits, spell_variable, spell_operand, spell_expression, spell}
use Rattle.program.specs.Program.{at, InPlace, Targets, WellFormed, Taken}
use Rattle.base.proofs.Bools.{last-or-below}
use Rattle.cases.specs.Cases.{P-text}

unfoldable pub P-program : List Statement
P-program =
    Read 0
    ∷ Assign 1 (Single (Variable 0))
    ∷ Assign 2 (Single (Constant 7))
    ∷ Assign 3 (Binary (Variable 1) Add (Variable 2))
    ∷ Branch 0 6 8
    ∷ Assign 0 (Binary (Variable 0) Subtract (Constant 1))
    ∷ Branch 0 4 8
    ∷ Write 3
    ∷ []

-- X holds of each number below n
abbrev Below : ℕ → (ℕ → Type 0) → Type 0
Below zero X = Unit
Below (suc n) X = Below n X × X n

below : (n : ℕ) (X : ℕ → Type 0) → Below n X → (s : ℕ) → s < n → X s
below zero X h = λ s l. absurd (not-suc-le-zero l)
below (suc n) X h = last-or-below n X h.1 (below n X h.0)

P-well-formed : WellFormed P-program
unfolding P-program
P-well-formed = record {
  valid = search rules;
  counted = search rules;
  placed = below 8 (λ s. InPlace 8 s (at P-program s)) (search rules);
  aimed = below 8 (λ s. Targets 8 (at P-program s)) (search rules);
}

pub P-taken : Taken P-text P-program
unfolding P-text P-program lines.text spell spell_expression spell_operand spell_variable signed_digits digits digits_by
P-taken = record { lines = refl; program = P-well-formed }
