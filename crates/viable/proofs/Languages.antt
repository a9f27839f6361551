-- What the items of the table stand for, and that each stands for something. Assumes nothing.
use mathlib.Core.Path.{◌≡◌, refl, ap, sym, ◌∙◌}
use mathlib.Core.List.{List, [], ◌∷◌, ◌++◌, append_assoc}
use mathlib.Core.Bool.{Bool, true, false, ◌&&◌, not}
use Prim.Native.Nat.{ℕ, ◌+◌, ◌-◌, ◌^◌, ◌≤◌, ◌<◌}
use native.Mathlib.Decide.{dec_lt}
use native.Mathlib.Omega.{arith}
use lib.Dec.{eqb}
use lib.ListN.{get_or, drop}
use Rattle.base.specs.Bytes.{bytes, byte}
use Rattle.base.specs.Pick.{pick}
use Rattle.base.proofs.Bools.{and_left, and_right, false_of_not}
use Rattle.language.specs.Spelling.{variables, largest, digits, spell_statement_number, ValidStatementNumber, spell_variable, ValidVariable, spell_constant, spell_operand, ValidOperand, spell_operator, spell_expression, ValidExpression, spell, Valid}
use Rattle.language.specs.declared.Operand.{Operand}
use Rattle.language.specs.declared.Operand.TheVariants.{Variable, Constant}
use Rattle.language.specs.declared.Operator.{Operator}
use Rattle.language.specs.declared.Operator.TheVariants.{Add, Subtract, Multiply, Less, Equal, Divide}
use Rattle.language.specs.declared.Expression.TheVariants.{Single, Binary}
use Rattle.language.specs.declared.Statement.TheVariants.{Read, Write, Assign, Branch, Skip}
use Rattle.language.proofs.Digits.{digits-small}
use Rattle.language.proofs.Constants.{constant-low, constant-high}
use Rattle.ctl.specs.Paths.{Quant, E, A, Direction, forward, backward}
use Rattle.condition.specs.declared.Atom.{Atom}
use Rattle.condition.specs.declared.Atom.TheVariants as atom
use Rattle.condition.specs.Condition as condition
use Rattle.condition.specs.Condition.{PathUnary, next, finally, globally, PathBinary, until, weak, Unary, negation, conjunction, disjunction, Condition, unary, binary, quant_letter, unary_letter, binary_letter, spell_atom, ValidAtom, spell_condition, ValidCondition}
use Rattle.viable.specs.Grammar.{rows, capital, bound_of}

-- the word w spells a valid value
pub record Spelled {A : Type 0} (spelt : A → List ℕ) (Good : A → Type 0) (w : List ℕ) : Type 0 where
  pub value : A
  pub good : Good value
  pub is : w ≡ spelt value

-- the text v is a word of P and then one of K
pub record Then (P K : List ℕ → Type 0) (v : List ℕ) : Type 0 where
  pub front : List ℕ
  pub rest : List ℕ
  pub text : v ≡ front ++ rest
  pub is : P front
  pub follows : K rest

pub data Kind : Type 0 where
  literal conditions quantified rounds roundSpaced squares squareSpaced trues entries numbers names digitsOf operands magnitudes statements indexed expressions rests operations : Kind

abbrev pub kind_of : ℕ → Kind
kind_of i =
    pick (capital i)
    (pick (eqb i (byte "C")) conditions
    (pick (eqb i (byte "Q")) quantified
    (pick (eqb i (byte "J")) rounds
    (pick (eqb i (byte "H")) roundSpaced
    (pick (eqb i (byte "K")) squares
    (pick (eqb i (byte "L")) squareSpaced
    (pick (eqb i (byte "T")) trues
    (pick (eqb i (byte "Z")) entries
    (pick (eqb i (byte "N")) numbers
    (pick (eqb i (byte "V")) names
    (pick (eqb i (byte "D")) digitsOf
    (pick (eqb i (byte "A")) operands
    (pick (eqb i (byte "M")) magnitudes
    (pick (eqb i (byte "S")) statements
    (pick (eqb i (byte "I")) indexed
    (pick (eqb i (byte "X")) expressions
    (pick (eqb i (byte "R")) rests
    (pick (eqb i (byte "O")) operations literal)))))))))))))))))) literal

abbrev pub OfCondition : List ℕ → Type 0
OfCondition w = Spelled spell_condition ValidCondition w

-- between two conditions in round brackets, and in square ones
abbrev pub OfRound : List ℕ → Type 0
OfRound w = (p q : Condition) → ValidCondition p → ValidCondition q → OfCondition (bytes "(" ++ (spell_condition p ++ (w ++ (spell_condition q ++ bytes ")"))))

abbrev pub OfSquare : List ℕ → Type 0
OfSquare w = (k : Quant) (p q : Condition) → ValidCondition p → ValidCondition q → OfCondition (quant_letter k ∷ byte "[" ∷ (spell_condition p ++ (w ++ (spell_condition q ++ bytes "]"))))

abbrev pub OfOperand : List ℕ → Type 0
OfOperand w = Spelled spell_operand ValidOperand w

abbrev pub OfStatement : List ℕ → Type 0
OfStatement w = Spelled (λ s. spell s ++ bytes ")") Valid w

abbrev pub OfExpression : List ℕ → Type 0
OfExpression w = Spelled (λ e. spell_expression e ++ bytes ")") ValidExpression w

abbrev pub OfRest : List ℕ → Type 0
OfRest w = (a : Operand) → ValidOperand a → OfExpression (spell_operand a ++ w)

abbrev pub OfKind : Kind → ℕ → List ℕ → Type 0
OfKind literal i w = w ≡ i ∷ []
OfKind conditions i w = OfCondition w
OfKind quantified i w = (k : Quant) → OfCondition (quant_letter k ∷ w)
OfKind rounds i w = OfRound w
OfKind roundSpaced i w = OfRound (byte " " ∷ w)
OfKind squares i w = OfSquare w
OfKind squareSpaced i w = OfSquare (byte " " ∷ w)
OfKind trues i w = OfCondition (bytes "tr" ++ w)
OfKind entries i w = OfCondition (byte "e" ∷ w)
OfKind numbers i w = Spelled digits ValidStatementNumber w
OfKind names i w = Spelled spell_variable ValidVariable w
OfKind digitsOf i w = Spelled digits ValidVariable w
OfKind operands i w = OfOperand w
OfKind magnitudes i w = Spelled digits (λ m. (0 < m) × (m ≤ 2 ^ 31)) w
OfKind statements i w = OfStatement w
OfKind indexed i w = OfStatement (byte "i" ∷ w)
OfKind expressions i w = OfExpression w
OfKind rests i w = OfRest w
OfKind operations i w = OfRest (byte " " ∷ w)

-- the words of an item; the texts of items one after another, and then of K
abbrev pub Of : ℕ → List ℕ → Type 0
Of i w = OfKind (kind_of i) i w

abbrev pub Words : List ℕ → (List ℕ → Type 0) → List ℕ → Type 0
Words [] K v = K v
Words (i ∷ w) K v = Then (Of i) (Words w K) v

-- each item has a word
some-kind : (k : Kind) (i : ℕ) → (w : List ℕ) × OfKind k i w
unfolding spell_condition spell_atom spell spell_expression spell_operand
some-kind literal i = (i ∷ [], refl)
some-kind conditions i = (bytes "true", record { value = condition.atom atom.True; good = tt; is = refl })
some-kind quantified i = (bytes "X true", λ k. record { value = unary (Unary.path k forward next) (condition.atom atom.True); good = tt; is = refl })
some-kind rounds i = (bytes " & ", λ p q a b. record { value = binary conjunction p q; good = (a, b); is = refl })
some-kind roundSpaced i = (bytes "& ", λ p q a b. record { value = binary conjunction p q; good = (a, b); is = refl })
some-kind squares i = (bytes " U ", λ k p q a b. record { value = binary (condition.Binary.path k forward until) p q; good = (a, b); is = refl })
some-kind squareSpaced i = (bytes "U ", λ k p q a b. record { value = binary (condition.Binary.path k forward until) p q; good = (a, b); is = refl })
some-kind trues i = (bytes "ue", record { value = condition.atom atom.True; good = tt; is = refl })
some-kind entries i = (bytes "xit", record { value = condition.atom atom.Exit; good = tt; is = refl })
some-kind numbers i = (digits 0, record { value = 0; good = omega arith; is = refl })
some-kind names i = (spell_variable 0, record { value = 0; good = omega arith; is = refl })
some-kind digitsOf i = (digits 0, record { value = 0; good = omega arith; is = refl })
some-kind operands i = (spell_operand (Variable 0), record { value = Variable 0; good = omega arith; is = refl })
some-kind magnitudes i = (digits 1, record { value = 1; good = (omega arith, omega arith); is = refl })
some-kind statements i = (bytes "skip)", record { value = Skip; good = tt; is = refl })
some-kind indexed i = (bytes "f " ++ (spell_variable 0 ++ (bytes " goto " ++ (digits 0 ++ (bytes " else " ++ (digits 0 ++ bytes ")"))))), record { value = Branch 0 0 0; good = (omega arith, omega arith, omega arith); is = simp append_assoc })
some-kind expressions i = (spell_operand (Variable 0) ++ bytes ")", record { value = Single (Variable 0); good = omega arith; is = refl })
some-kind rests i = (bytes ")", λ a v. record { value = Single a; good = v; is = refl })
some-kind operations i = (bytes "+ " ++ (spell_operand (Variable 0) ++ bytes ")"), λ a v. record { value = Binary a Add (Variable 0); good = (v, omega arith); is = simp append_assoc })

pub some_words : (st : List ℕ) → (v : List ℕ) × Words st (λ u. u ≡ []) v
some_words [] = ([], refl)
some_words (i ∷ st) =
    let a = some-kind (kind_of i) i in
    let b = some_words st in
    (a.0 ++ b.0, record { front = a.0; rest = b.0; text = refl; is = a.1; follows = b.1 })

pub words_append : (w st : List ℕ) (K : List ℕ → Type 0) (v : List ℕ) → Words (w ++ st) K v → Words w (Words st K) v
words_append [] st K v a = a
words_append (i ∷ w) st K v a = record { front = a.front; rest = a.rest; text = a.text; is = a.is; follows = words_append w st K a.rest a.follows }
