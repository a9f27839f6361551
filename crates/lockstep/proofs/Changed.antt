-- A program with some changes is a program again: what is made is valid, stands in its place and has the targets of what it replaces.
-- Assumes nothing.
use mathlib.Core.Path.{sym, subst}
use mathlib.Core.Bool.{Bool, true, false}
use mathlib.Core.Logic.{inl, inr}
use mathlib.Core.List.{List, [], ◌∷◌}
use Prim.Native.Nat.{ℕ, suc, ◌<◌}
use native.Mathlib.Omega.{arith}
use lib.Dec.{eqb}
use lib.ListN.{length}
use Rattle.language.specs.Spelling.{ValidVariable, ValidOperand, ValidExpression, Valid}
use Rattle.language.specs.declared.Operand.{Operand}
use Rattle.language.specs.declared.Operand.TheVariants.{Variable, Constant}
use Rattle.language.specs.declared.Expression.{Expression}
use Rattle.language.specs.declared.Expression.TheVariants.{Single, Binary}
use Rattle.language.specs.declared.Statement.{Statement}
use Rattle.language.specs.declared.Statement.TheVariants.{Read, Write, Assign, Branch, Skip}
use Rattle.program.specs.Program.{AllValid, at, InPlace, Targets, WellFormed}
use Rattle.program.proofs.Held.{at-valid}
use Rattle.marks.specs.Marks.{ValidMark}
use Rattle.marks.specs.declared.Mark.{Mark}
use Rattle.marks.specs.declared.Mark.TheVariants.{Rm, Rpl, Cse}
use Rattle.lockstep.specs.Rules.{Fits, replace_operand, replace_in, replace_variable, replace, reuse, makes}
use Rattle.base.specs.Pick.{pick}
use Rattle.lockstep.specs.Lockstep.{Change, Changed}

-- ---- what is valid

picked-operand : (b : Bool) (a c : Operand) → ValidOperand a → ValidOperand c → ValidOperand (pick b a c)
picked-operand true a c v u = v
picked-operand false a c v u = u

picked-variable : (b : Bool) (z y : ℕ) → ValidVariable z → ValidVariable y → ValidVariable (pick b z y)
picked-variable true z y v u = v
picked-variable false z y v u = u

module _ (x : ℕ) where
  operand-valid : (a b : Operand) → ValidOperand a → ValidOperand b → ValidOperand (replace_operand x a b)
  operand-valid a (Variable y) v u = picked-operand (eqb x y) a (Variable y) v u
  operand-valid a (Constant n) v u = u

  expression-valid : (a : Operand) (e : Expression) → ValidOperand a → ValidExpression e → ValidExpression (replace_in x a e)
  expression-valid a (Single b) v u = operand-valid a b v u
  expression-valid a (Binary b o c) v u = (operand-valid a b v u.0, operand-valid a c v u.1)

  variable-valid : (a : Operand) (y : ℕ) → ValidOperand a → ValidVariable y → ValidVariable (replace_variable x a y)
  variable-valid (Variable z) y v u = picked-variable (eqb x y) z y v u
  variable-valid (Constant n) y v u = u

  replaced-valid : (a : Operand) (i : Statement) → ValidOperand a → Valid i → Valid (replace x a i)
  replaced-valid a (Read y) v u = u
  replaced-valid a (Write y) v u = variable-valid a y v u
  replaced-valid a (Assign y e) v u = (u.0, expression-valid a e v u.1)
  replaced-valid a (Branch y n m) v u = (variable-valid a y v u.0, u.1, u.2)
  replaced-valid a Skip v u = u

reused-valid : (t : ℕ) (i : Statement) → ValidVariable t → Valid i → Valid (reuse t i)
reused-valid t (Read y) v u = u
reused-valid t (Write y) v u = u
reused-valid t (Assign z e) v u = (u.0, v)
reused-valid t (Branch y n m) v u = u
reused-valid t Skip v u = u

made-valid : (m : Mark) (i : Statement) → ValidMark m → Valid i → Valid (makes m i)
made-valid (Rm n x e) i v u = tt
made-valid (Rpl n x a) i v u = replaced-valid x a i v.2 u
made-valid (Cse n t e) i v u = reused-valid t i v.1 u

-- ---- places and targets

replaced-placed : (N s x : ℕ) (a : Operand) (i : Statement) → InPlace N s i → InPlace N s (replace x a i)
replaced-placed N s x a (Read y) p = p
replaced-placed N s x a (Write y) p = p
replaced-placed N s x a (Assign y e) p = p
replaced-placed N s x a (Branch y n m) p = p
replaced-placed N s x a Skip p = p

reused-placed : (N s t : ℕ) (i : Statement) → InPlace N s i → InPlace N s (reuse t i)
reused-placed N s t (Read y) p = p
reused-placed N s t (Write y) p = p
reused-placed N s t (Assign z e) p = p
reused-placed N s t (Branch y n m) p = p
reused-placed N s t Skip p = p

made-placed : (N s : ℕ) (m : Mark) (i : Statement) → Fits m i → InPlace N s i → InPlace N s (makes m i)
made-placed N s (Rm n x e) i fit p = subst (InPlace N s) fit p
made-placed N s (Rpl n x a) i fit p = replaced-placed N s x a i p
made-placed N s (Cse n t e) i fit p = reused-placed N s t i p

replaced-aimed : (N x : ℕ) (a : Operand) (i : Statement) → Targets N i → Targets N (replace x a i)
replaced-aimed N x a (Read y) t = t
replaced-aimed N x a (Write y) t = t
replaced-aimed N x a (Assign y e) t = t
replaced-aimed N x a (Branch y n m) t = t
replaced-aimed N x a Skip t = t

reused-aimed : (N t : ℕ) (i : Statement) → Targets N i → Targets N (reuse t i)
reused-aimed N t (Read y) a = a
reused-aimed N t (Write y) a = a
reused-aimed N t (Assign z e) a = a
reused-aimed N t (Branch y n m) a = a
reused-aimed N t Skip a = a

made-aimed : (N : ℕ) (m : Mark) (i : Statement) → Targets N i → Targets N (makes m i)
made-aimed N (Rm n x e) i t = tt
made-aimed N (Rpl n x a) i t = replaced-aimed N x a i t
made-aimed N (Cse n z e) i t = reused-aimed N z i t

-- ---- the program

all_valid : (Q : List Statement) → ((s : ℕ) → s < length Q → Valid (at Q s)) → AllValid Q
all_valid [] h = tt
all_valid (i ∷ Q) h = (h 0 (omega arith), all_valid Q (λ s l. h (suc s) (omega arith)))

-- what every valid mark that fits keeps true of the statement, a change keeps true of it
change-keeps :
    (U : ℕ → ℕ → Type 0) (P : List Statement) (s : ℕ) (i : Statement) (X : Statement → Type 0)
    → ((m : Mark) → ValidMark m → Fits m (at P s) → X (at P s) → X (makes m (at P s))) → Change U P s i → X (at P s) → X i
change-keeps U P s i X f (inl e) h = subst X (sym e) h
change-keeps U P s i X f (inr (m, v, fit, d, c, t, e)) h = subst X (sym e) (f m v fit h)

pub changed-wellformed : {U : ℕ → ℕ → Type 0} {P Q : List Statement} → WellFormed P → Changed U P Q → WellFormed Q
changed-wellformed {U} {P} {Q} w d = record {
  valid = all_valid Q valid;
  counted = rw d.same w.counted;
  placed = rw d.same placed;
  aimed = rw d.same aimed;
}
  where
    valid : (s : ℕ) → s < length Q → Valid (at Q s)
    valid s l =
        let inside : s < length P = rw d.same at l in
        change-keeps U P s (at Q s) Valid (λ m v fit. made-valid m (at P s) v) (d.changes s inside) (at-valid P s w.valid inside)

    placed : (s : ℕ) → s < length P → InPlace (length P) s (at Q s)
    placed s l =
        change-keeps U P s (at Q s) (InPlace (length P) s) (λ m v. made-placed (length P) s m (at P s)) (d.changes s l) (w.placed s l)

    aimed : (s : ℕ) → s < length P → Targets (length P) (at Q s)
    aimed s l =
        change-keeps U P s (at Q s) (Targets (length P)) (λ m v fit. made-aimed (length P) m (at P s)) (d.changes s l) (w.aimed s l)
