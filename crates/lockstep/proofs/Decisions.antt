-- What is decided of statements: the variables of an operand and of an expression, what a statement defines, and whether it is a given
-- assignment.
-- Assumes nothing.
use mathlib.Core.Path.{◌≡◌, refl, sym, ◌∙◌, ap, ap₂, subst}
use mathlib.Core.Logic.{inl, inr, ⊎_elim}
use Prim.Native.Nat.{ℕ, zero, suc}
use native.Mathlib.Decide.{ℕ_discrete}
use native.Mathlib.Omega.{arith}
use Rattle.language.specs.declared.Operand.{Operand}
use Rattle.language.specs.declared.Operand.TheVariants.{Variable, Constant}
use Rattle.language.specs.declared.Operator.{Operator}
use Rattle.language.specs.declared.Operator.TheVariants.{Add, Subtract, Multiply, Less, Equal, Divide}
use Rattle.language.specs.declared.Expression.{Expression}
use Rattle.language.specs.declared.Expression.TheVariants.{Single, Binary}
use Rattle.language.specs.declared.Statement.{Statement}
use Rattle.language.specs.declared.Statement.TheVariants.{Read, Write, Assign, Branch, Skip}
use Rattle.truth.specs.Truth.{InOperand, In, Defines}

pub operand-decided : (x : ℕ) (a : Operand) → Dec (InOperand x a)
operand-decided x (Variable y) = ℕ_discrete x y
operand-decided x (Constant n) = no (λ h. h)

pub defines-decided : (i : Statement) (x : ℕ) → Dec (Defines i x)
defines-decided (Read y) x = ℕ_discrete x y
defines-decided (Write y) x = no (λ h. h)
defines-decided (Assign y e) x = ℕ_discrete x y
defines-decided (Branch y n m) x = no (λ h. h)
defines-decided Skip x = no (λ h. h)

same_operand : (a b : Operand) → Dec (a ≡ b)
same_operand (Variable x) (Variable y) = by (ℕ_discrete x y)
  where
    by : Dec (x ≡ y) → Dec (Variable x ≡ Variable y)
    by (yes e) = yes (ap (λ (z : ℕ). Variable z) e)
    by (no f) = no (λ h. let e : x ≡ y = cc in f e)
same_operand (Constant n) (Constant m) = by (ℕ_discrete n m)
  where
    by : Dec (n ≡ m) → Dec (Constant n ≡ Constant m)
    by (yes e) = yes (ap (λ (k : ℕ). Constant k) e)
    by (no f) = no (λ h. let e : n ≡ m = cc in f e)
same_operand (Variable x) (Constant n) = no (λ h. let z : ◌≡◌ {A = ℕ} 0 1 = cc in omega arith)
same_operand (Constant n) (Variable x) = no (λ h. let z : ◌≡◌ {A = ℕ} 0 1 = cc in omega arith)

-- operators by numbers
abbrev number_of : Operator → ℕ
number_of Add = 0
number_of Subtract = 1
number_of Multiply = 2
number_of Less = 3
number_of Equal = 4
number_of Divide = 5

abbrev operator_of : ℕ → Operator
operator_of zero = Add
operator_of (suc zero) = Subtract
operator_of (suc (suc zero)) = Multiply
operator_of (suc (suc (suc zero))) = Less
operator_of (suc (suc (suc (suc zero)))) = Equal
operator_of (suc (suc (suc (suc (suc n))))) = Divide

operator-back : (o : Operator) → operator_of (number_of o) ≡ o
operator-back Add = refl
operator-back Subtract = refl
operator-back Multiply = refl
operator-back Less = refl
operator-back Equal = refl
operator-back Divide = refl

same-operator : (o p : Operator) → Dec (o ≡ p)
same-operator o p = by (ℕ_discrete (number_of o) (number_of p))
  where
    by : Dec (number_of o ≡ number_of p) → Dec (o ≡ p)
    by (yes e) = yes (sym (operator-back o) ∙ ap operator_of e ∙ operator-back p)
    by (no f) = no (λ h. f (ap number_of h))

same-expression : (e f : Expression) → Dec (e ≡ f)
same-expression (Single a) (Single b) = by (same_operand a b)
  where
    by : Dec (a ≡ b) → Dec (Single a ≡ Single b)
    by (yes e) = yes (ap (λ (c : Operand). Single c) e)
    by (no f) = no (λ h. let e : a ≡ b = cc in f e)
same-expression (Binary a o b) (Binary c p d) = by (same_operand a c) (same-operator o p) (same_operand b d)
  where
    by : Dec (a ≡ c) → Dec (o ≡ p) → Dec (b ≡ d) → Dec (Binary a o b ≡ Binary c p d)
    by (yes e) (yes f) (yes g) = yes cc
    by (no e) f g = no (λ h. let k : a ≡ c = cc in e k)
    by (yes e) (no f) g = no (λ h. let k : o ≡ p = cc in f k)
    by (yes e) (yes f) (no g) = no (λ h. let k : b ≡ d = cc in g k)
same-expression (Single a) (Binary c p d) = no (λ h. let z : ◌≡◌ {A = ℕ} 0 1 = cc in omega arith)
same-expression (Binary a o b) (Single c) = no (λ h. let z : ◌≡◌ {A = ℕ} 0 1 = cc in omega arith)

pub in-decided : (x : ℕ) (e : Expression) → Dec (In x e)
in-decided x (Single a) = operand-decided x a
in-decided x (Binary a o b) = by (operand-decided x a) (operand-decided x b)
  where
    by : Dec (InOperand x a) → Dec (InOperand x b) → Dec (In x (Binary a o b))
    by (yes h) q = yes (inl h)
    by (no f) (yes h) = yes (inr h)
    by (no f) (no g) = no (⊎_elim f g)

pub assign-decided : (i : Statement) (x : ℕ) (e : Expression) → Dec (i ≡ Assign x e)
assign-decided (Assign y f) x e = by (ℕ_discrete y x) (same-expression f e)
  where
    by : Dec (y ≡ x) → Dec (f ≡ e) → Dec (Assign y f ≡ Assign x e)
    by (yes p) (yes q) = yes (ap₂ Assign p q)
    by (no p) q = no (λ h. let k : y ≡ x = cc in p k)
    by (yes p) (no q) = no (λ h. let k : f ≡ e = cc in q k)
assign-decided (Read y) x e = no (λ h. let z : ◌≡◌ {A = ℕ} 0 1 = cc in omega arith)
assign-decided (Write y) x e = no (λ h. let z : ◌≡◌ {A = ℕ} 0 1 = cc in omega arith)
assign-decided (Branch y n m) x e = no (λ h. let z : ◌≡◌ {A = ℕ} 0 1 = cc in omega arith)
assign-decided Skip x e = no (λ h. let z : ◌≡◌ {A = ℕ} 0 1 = cc in omega arith)

-- the work is done here, and what it is done on stays
pub work-decided : (i : Statement) (t : ℕ) (e : Expression) → Dec ((i ≡ Assign t e) × ((y : ℕ) → In y e → Defines i y → ⊥))
work-decided i t e = by (assign-decided i t e) (in-decided t e)
  where
    by : Dec (i ≡ Assign t e) → Dec (In t e) → Dec ((i ≡ Assign t e) × ((y : ℕ) → In y e → Defines i y → ⊥))
    by (no f) d = no (λ h. f h.0)
    by (yes is) (yes d) = no (λ h. h.1 t d (subst (λ (j : Statement). Defines j t) (sym is) refl))
    by (yes is) (no d) = yes (is, λ y u defined. d (subst (λ (z : ℕ). In z e) (subst (λ (j : Statement). Defines j y) is defined) u))
