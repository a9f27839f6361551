-- Tests of atoms that compute, and that they answer the atoms' truth. Assumes nothing.
use mathlib.Core.Path.{◌≡◌, refl, subst}
use mathlib.Core.Bool.{Bool, true, false, not, ◌&&◌, ◌||◌}
use mathlib.Core.Logic.{◌⊎◌, inl}
use mathlib.Core.List.{List}
use Prim.Native.Nat.{ℕ, ◌+◌, ◌≤◌, ◌<◌}
use native.Mathlib.Omega.{arith}
use lib.Dec.{eqb, leb, ltb}
use borrow.Author.Tests.{eqb-true, eq-eqb, leb-true, leb-false, ltb-true, ltb-false}
use Rattle.language.specs.Kept.{first_kept, kept_count, Kept}
use Rattle.language.specs.declared.Operand.{Operand}
use Rattle.language.specs.declared.Operand.TheVariants.{Variable, Constant}
use Rattle.language.specs.declared.Expression.{Expression}
use Rattle.language.specs.declared.Expression.TheVariants.{Single, Binary}
use Rattle.language.specs.declared.Statement.{Statement}
use Rattle.language.specs.declared.Statement.TheVariants.{Read, Write, Assign, Branch, Skip}
use Rattle.program.specs.Program.{at}
use Rattle.base.specs.Decides.{Decides}
use Rattle.base.proofs.Decides.{decides, decides_eqb, decides-either}
use Rattle.base.proofs.Bools.{clash, and_left, and_right, and_both}
use Rattle.condition.specs.declared.Atom.{Atom}
use Rattle.condition.specs.declared.Atom.TheVariants.{True, False, Entry, Exit, Node, Stmt, Def, Use, Trans}
use Rattle.truth.specs.Truth.{InOperand, In, Defines, Shows, Writes, Uses, uses_of, HoldsAt}
use Rattle.codes.specs.Codes.{statement_code}
use Rattle.codes.proofs.Codes.{code-unique}
use Rattle.codes.proofs.Truths.{decides-none}

abbrev in_operand : ℕ → Operand → Bool
in_operand x (Variable y) = eqb x y
in_operand x (Constant n) = false

operand-decides : (x : ℕ) (a : Operand) → Decides (in_operand x a) (InOperand x a)
operand-decides x (Variable y) = decides_eqb x y
operand-decides x (Constant n) = λ h. h

abbrev in_expression : ℕ → Expression → Bool
in_expression x (Single a) = in_operand x a
in_expression x (Binary a o b) = in_operand x a || in_operand x b

pub decides_or : (X Y : Type 0) (a b : Bool) → Decides a X → Decides b Y → Decides (a || b) (X ⊎ Y)
decides_or X Y true b d e = inl d
decides_or X Y false b d e = decides-either Y b d e

pub decides_and : (X Y : Type 0) (a b : Bool) → Decides a X → Decides b Y → Decides (a && b) (X × Y)
decides_and X Y true true d e = (d, e)
decides_and X Y true false d e = λ h. e h.1
decides_and X Y false b d e = λ h. d h.0

pub decides-leb : (a b : ℕ) → Decides (leb a b) (a ≤ b)
decides-leb a b = decides (leb a b) (leb-true a b) (λ e h. omega (arith, leb-false a b e))

decides_ltb : (a b : ℕ) → Decides (ltb a b) (a < b)
decides_ltb a b = decides (ltb a b) (ltb-true a b) (λ e h. omega (arith, ltb-false a b e))

expression-decides : (x : ℕ) (e : Expression) → Decides (in_expression x e) (In x e)
expression-decides x (Single a) = operand-decides x a
expression-decides x (Binary a o b) = decides_or (InOperand x a) (InOperand x b) (in_operand x a) (in_operand x b) (operand-decides x a) (operand-decides x b)

abbrev defines : Statement → ℕ → Bool
defines (Read y) x = eqb x y
defines (Write y) x = false
defines (Assign y e) x = eqb x y
defines (Branch y n m) x = false
defines Skip x = false

defines-decides : (i : Statement) (x : ℕ) → Decides (defines i x) (Defines i x)
defines-decides (Read y) x = decides_eqb x y
defines-decides (Write y) x = λ h. h
defines-decides (Assign y e) x = decides_eqb x y
defines-decides (Branch y n m) x = λ h. h
defines-decides Skip x = λ h. h

abbrev pub shows : Statement → ℕ → Bool
shows (Read y) x = false
shows (Write y) x = eqb x y
shows (Assign y e) x = in_expression x e
shows (Branch y n m) x = eqb x y
shows Skip x = false

pub shows-decides : (i : Statement) (x : ℕ) → Decides (shows i x) (Shows i x)
shows-decides (Read y) x = λ h. h
shows-decides (Write y) x = decides_eqb x y
shows-decides (Assign y e) x = expression-decides x e
shows-decides (Branch y n m) x = decides_eqb x y
shows-decides Skip x = λ h. h

abbrev writes : Statement → Bool
writes (Read y) = false
writes (Write y) = true
writes (Assign y e) = false
writes (Branch y n m) = false
writes Skip = false

writes-decides : (i : Statement) → Decides (writes i) (Writes i)
writes-decides (Read y) = λ h. h
writes-decides (Write y) = tt
writes-decides (Assign y e) = λ h. h
writes-decides (Branch y n m) = λ h. h
writes-decides Skip = λ h. h

abbrev kept : ℕ → Bool
kept x = leb first_kept x && ltb x (first_kept + kept_count)

kept-decides : (x : ℕ) → Decides (kept x) (Kept x)
kept-decides x =
    decides_and (first_kept ≤ x) (x < first_kept + kept_count) (leb first_kept x) (ltb x (first_kept + kept_count))
    (decides-leb first_kept x) (decides_ltb x (first_kept + kept_count))

abbrev uses : Statement → ℕ → Bool
uses i x = shows i x || (writes i && kept x)

uses-decides : (i : Statement) (x : ℕ) → Decides (uses i x) (Uses i x)
uses-decides i x =
    decides_or (Shows i x) (Writes i × Kept x) (shows i x) (writes i && kept x) (shows-decides i x)
    (decides_and (Writes i) (Kept x) (writes i) (kept x) (writes-decides i) (kept-decides x))

-- tests of a variable and a place answer what counts as used
abbrev pub DecidesUses : (ℕ → ℕ → Bool) → (ℕ → ℕ → Type 0) → Type 0
DecidesUses used U = (x s : ℕ) → Decides (used x s) (U x s)

-- the uses of a program
abbrev pub own_uses : List Statement → ℕ → ℕ → Bool
own_uses P x s = uses (at P s) x

pub own-decides : (P : List Statement) → DecidesUses (own_uses P) (uses_of P)
own-decides P x s = uses-decides (at P s) x

-- no variable of the expression is defined
abbrev keeps : Statement → Expression → Bool
keeps (Read y) e = not (in_expression y e)
keeps (Write y) e = true
keeps (Assign y v) e = not (in_expression y e)
keeps (Branch y n m) e = true
keeps Skip e = true

keeps-decides : (i : Statement) (e : Expression) → Decides (keeps i e) ((x : ℕ) → In x e → Defines i x → ⊥)
keeps-decides (Read y) e = decides-none (in_expression y e) e y (expression-decides y e)
keeps-decides (Write y) e = λ x i d. d
keeps-decides (Assign y v) e = decides-none (in_expression y e) e y (expression-decides y e)
keeps-decides (Branch y n m) e = λ x i d. d
keeps-decides Skip e = λ x i d. d

-- two and two numbers are the same
abbrev same : ℕ → ℕ → ℕ → ℕ → Bool
same a b c d = eqb a b && eqb c d

same-equal : (a b c d : ℕ) → same a b c d ≡ true → (a ≡ b) × (c ≡ d)
same-equal a b c d e = (eqb-true a b (and_left (eqb a b) (eqb c d) e), eqb-true c d (and_right (eqb a b) (eqb c d) e))

same_self : (a c : ℕ) → same a a c c ≡ true
same_self a c = and_both (eqb a a) (eqb c c) (eq-eqb a a refl) (eq-eqb c c refl)

abbrev same_front : Statement → Statement → Bool
same_front i j = same (statement_code i).kind (statement_code j).kind (statement_code i).first (statement_code j).first

abbrev same_rear : Statement → Statement → Bool
same_rear i j = same (statement_code i).second (statement_code j).second (statement_code i).third (statement_code j).third

-- the four numbers of their codes are the same
abbrev pub same_statement : Statement → Statement → Bool
same_statement i j = same_front i j && same_rear i j

pub statement-decides : (i j : Statement) → Decides (same_statement i j) (i ≡ j)
statement-decides i j = decides (same_statement i j) there (λ e h. clash (subst (λ (x : Statement). same_statement i x ≡ true) h alike) e)
  where
    there : same_statement i j ≡ true → i ≡ j
    there e =
        let f = same-equal (statement_code i).kind (statement_code j).kind (statement_code i).first (statement_code j).first (and_left (same_front i j) (same_rear i j) e) in
        let r = same-equal (statement_code i).second (statement_code j).second (statement_code i).third (statement_code j).third (and_right (same_front i j) (same_rear i j) e) in
        code-unique i j (λ k. record { kind = f.0 k; first = f.1 k; second = r.0 k; third = r.1 k })

    alike : same_statement i i ≡ true
    alike =
        and_both (same_front i i) (same_rear i i) (same_self (statement_code i).kind (statement_code i).first)
        (same_self (statement_code i).second (statement_code i).third)

-- at place s of N, where the statement i stands and the variables of which `used` is true count as used
unfoldable pub holds : (ℕ → Bool) → ℕ → Statement → ℕ → Atom → Bool
holds used N i s True = true
holds used N i s False = false
holds used N i s Entry = eqb s 0
holds used N i s Exit = eqb (s + 1) N
holds used N i s (Node n) = eqb (s + 1) n
holds used N i s (Stmt j) = same_statement i j
holds used N i s (Def x) = defines i x
holds used N i s (Use x) = used x
holds used N i s (Trans e) = keeps i e

pub holds-decides : (used : ℕ → Bool) (Used : ℕ → Type 0) → ((x : ℕ) → Decides (used x) (Used x))
    → (N : ℕ) (i : Statement) (s : ℕ) (a : Atom) → Decides (holds used N i s a) (HoldsAt Used N i s a)
unfolding holds
holds-decides used Used d N i s True = tt
holds-decides used Used d N i s False = λ h. h
holds-decides used Used d N i s Entry = decides_eqb s 0
holds-decides used Used d N i s Exit = decides_eqb (s + 1) N
holds-decides used Used d N i s (Node n) = decides_eqb (s + 1) n
holds-decides used Used d N i s (Stmt j) = statement-decides i j
holds-decides used Used d N i s (Def x) = defines-decides i x
holds-decides used Used d N i s (Use x) = d x
holds-decides used Used d N i s (Trans e) = keeps-decides i e
