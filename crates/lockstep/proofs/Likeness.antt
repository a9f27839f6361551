-- Statements that do the same on two lists of values: a statement and itself, where the lists agree on what it uses; a statement and
-- the one with an operand for a variable, where the variable's value is the operand's. Assumes nothing.
use mathlib.Core.Path.{◌≡◌, refl, sym, ap, ap₂}
use mathlib.Core.Bool.{Bool, true, false}
use mathlib.Core.Logic.{inl, inr, ⊎_elim}
use mathlib.Core.List.{List}
use Prim.Native.Nat.{ℕ, ◌<◌}
use lib.Dec.{eqb}
use lib.ListN.{length, get_or, set}
use lib.Seq.{get_or-set_same}
use borrow.Author.Tests.{eqb-true, ne_eqb}
use Rattle.base.proofs.Bools.{split}
use Rattle.language.specs.Spelling.{variables}
use Rattle.language.specs.Kept.{kept_of}
use Rattle.language.specs.declared.Operand.{Operand}
use Rattle.language.specs.declared.Operand.TheVariants.{Variable, Constant}
use Rattle.language.specs.declared.Operator.{Operator}
use Rattle.language.specs.declared.Operator.TheVariants.{Add, Subtract, Multiply, Less, Equal, Divide}
use Rattle.language.specs.declared.Expression.{Expression}
use Rattle.language.specs.declared.Expression.TheVariants.{Single, Binary}
use Rattle.language.specs.declared.Statement.{Statement}
use Rattle.language.specs.declared.Statement.TheVariants.{Read, Write, Assign, Branch, Skip}
use Rattle.language.proofs.Kept.{kept-agree}
use Rattle.std.specs.Prelude.{Option, None, Some}
use Rattle.arithmetic.specs.Arithmetic.{apply, faults, given}
use Rattle.machine.specs.Machine.{operand_value, value}
use Rattle.truth.specs.Truth.{InOperand, In, Uses}
use Rattle.lockstep.specs.Rules.{IsVariable, Takes, Safe, Harmless, replace_operand, replace_in, replace_variable, replace}
use Rattle.base.specs.Pick.{pick}

-- the value stored last is the one found
pub stored_here : (vs : List ℕ) (x v y : ℕ) → x < length vs → y ≡ x → get_or (set vs x v) y 0 ≡ v
stored_here vs x v y l e = rw e (get_or-set_same vs x v 0 l)

-- an operand's own variable has its value
pub operand-self : (a : Operand) (x : ℕ) (vs : List ℕ) → InOperand x a → operand_value vs a ≡ get_or vs x 0
operand-self (Variable y) x vs e = ap (λ (z : ℕ). get_or vs z 0) (sym e)
operand-self (Constant n) x vs e = absurd e

-- what can't fault gives a value
pub harmless-gives : (vs : List ℕ) (e : Expression) → Harmless e → (v : ℕ) × (value vs e ≡ Some v)
harmless-gives vs (Single a) h = (operand_value vs a, refl)
harmless-gives vs (Binary a o b) h = let v = apply o (operand_value vs a) (operand_value vs b) in (v, ap (λ (x : Bool). given x v) (safe-operator o b h))
  where
    safe-operator : (o : Operator) (b : Operand) → Safe o b → faults o (operand_value vs b) ≡ false
    safe-operator Add b h = refl
    safe-operator Subtract b h = refl
    safe-operator Multiply b h = refl
    safe-operator Less b h = refl
    safe-operator Equal b h = refl
    safe-operator Divide (Variable x) h = absurd h
    safe-operator Divide (Constant n) h = ne_eqb n 0 h

-- j does with ws what i does with vs: the same kind of statement, to the same variable, on equal values
pub data Like (vs ws : List ℕ) : Statement → Statement → Type 0 where
  reads : {x : ℕ} → Like vs ws (Read x) (Read x)
  writes : {x y : ℕ} → get_or vs x 0 ≡ get_or ws y 0 → kept_of vs ≡ kept_of ws → Like vs ws (Write x) (Write y)
  assigns : {x : ℕ} {e f : Expression} → value vs e ≡ value ws f → Like vs ws (Assign x e) (Assign x f)
  branches : {x y n m : ℕ} → get_or vs x 0 ≡ get_or ws y 0 → Like vs ws (Branch x n m) (Branch y n m)
  skips : Like vs ws Skip Skip

-- the two lists hold the same at x
abbrev pub Same : List ℕ → List ℕ → ℕ → Type 0
Same vs ws x = get_or vs x 0 ≡ get_or ws x 0

module _ (vs ws : List ℕ) where
  -- ---- lists that agree on what is used

  pub operand_agrees : (a : Operand) → ((y : ℕ) → InOperand y a → Same vs ws y) → operand_value vs a ≡ operand_value ws a
  operand_agrees (Variable x) h = h x refl
  operand_agrees (Constant n) h = refl

  pub value-agrees : (e : Expression) → ((y : ℕ) → In y e → Same vs ws y) → value vs e ≡ value ws e
  value-agrees (Single a) h = ap Some (operand_agrees a h)
  value-agrees (Binary a o b) h =
      ap₂ (λ (v w : ℕ). given (faults o w) (apply o v w)) (operand_agrees a (λ y u. h y (inl u))) (operand_agrees b (λ y u. h y (inr u)))

  module _ (long : length vs ≡ variables) (long' : length ws ≡ variables) where
    -- a `write` uses the kept variables too
    kept_same : (x : ℕ) → ((y : ℕ) → Uses (Write x) y → Same vs ws y) → kept_of vs ≡ kept_of ws
    kept_same x h = kept-agree vs ws long long' (λ y k. h y (inr (tt, k)))

    pub same-like : (i : Statement) → ((y : ℕ) → Uses i y → Same vs ws y) → Like vs ws i i
    same-like (Read x) h = reads
    same-like (Write x) h = writes (h x (inl refl)) (kept_same x h)
    same-like (Assign x e) h = assigns (value-agrees e (λ y u. h y (inl u)))
    same-like (Branch x n m) h = branches (h x (inl refl))
    same-like Skip h = skips

  -- ---- the operand a for the variable x, where x has in vs what a has in ws

  module _ (x : ℕ) (a : Operand) (same : get_or vs x 0 ≡ operand_value ws a) where
    operand-like :
        (b : Operand) → ((y : ℕ) → InOperand y b → Same vs ws y) → operand_value vs b ≡ operand_value ws (replace_operand x a b)
    operand-like (Constant n) h = refl
    operand-like (Variable y) h = ⊎_elim there other (split (eqb x y))
      where
        there : eqb x y ≡ true → get_or vs y 0 ≡ operand_value ws (pick (eqb x y) a (Variable y))
        there e = rw e (rw (eqb-true x y e) at same)

        other : eqb x y ≡ false → get_or vs y 0 ≡ operand_value ws (pick (eqb x y) a (Variable y))
        other e = rw e (h y refl)

    expression-like : (e : Expression) → ((y : ℕ) → In y e → Same vs ws y) → value vs e ≡ value ws (replace_in x a e)
    expression-like (Single b) h = ap Some (operand-like b h)
    expression-like (Binary b o c) h =
        ap₂ (λ (v w : ℕ). given (faults o w) (apply o v w)) (operand-like b (λ y u. h y (inl u))) (operand-like c (λ y u. h y (inr u)))

  -- where only a variable can stand
  variable-like :
      (x : ℕ) (a : Operand) → get_or vs x 0 ≡ operand_value ws a → IsVariable a
      → (y : ℕ) → Same vs ws y → get_or vs y 0 ≡ get_or ws (replace_variable x a y) 0
  variable-like x (Constant n) same v y h = absurd v
  variable-like x (Variable z) same v y h = ⊎_elim there other (split (eqb x y))
    where
      there : eqb x y ≡ true → get_or vs y 0 ≡ get_or ws (pick (eqb x y) z y) 0
      there e = rw e (rw (eqb-true x y e) at same)

      other : eqb x y ≡ false → get_or vs y 0 ≡ get_or ws (pick (eqb x y) z y) 0
      other e = rw e h

  pub replaced-like :
      length vs ≡ variables → length ws ≡ variables → (x : ℕ) (a : Operand) → get_or vs x 0 ≡ operand_value ws a
      → (i : Statement) → Takes i a → ((y : ℕ) → Uses i y → Same vs ws y) → Like vs ws i (replace x a i)
  replaced-like l l' x a same (Read y) v h = reads
  replaced-like l l' x a same (Write y) v h = writes (variable-like x a same v y (h y (inl refl))) (kept_same l l' y h)
  replaced-like l l' x a same (Assign y e) v h = assigns (expression-like x a same e (λ z u. h z (inl u)))
  replaced-like l l' x a same (Branch y n m) v h = branches (variable-like x a same v y (h y (inl refl)))
  replaced-like l l' x a same Skip v h = skips
