-- Each row of the table is right: what is expected after its byte, with that byte before it, is what its item stands for. Assumes nothing.
use mathlib.Core.Path.{◌≡◌, refl, ap, sym, ◌∙◌}
use mathlib.Core.List.{List, [], ◌∷◌, ◌++◌, append_assoc}
use mathlib.Core.Bool.{Bool, true, false, ◌&&◌, not}
use mathlib.Core.Logic.{◌⊎◌, inl, inr}
use Prim.Native.Nat.{ℕ, ◌+◌, ◌-◌, ◌^◌, ◌≤◌, ◌<◌}
use native.Mathlib.Decide.{dec_lt}
use native.Mathlib.Omega.{arith}
use lib.Dec.{eqb}
use lib.ListN.{get_or, drop}
use borrow.Author.Tests.{eqb-true}
use Rattle.base.specs.Bytes.{bytes, byte}
use Rattle.base.specs.Pick.{pick}
use Rattle.base.proofs.Bools.{and_left, and_right, false_of_not}
use Rattle.language.specs.Spelling.{variables, largest, digits, spell_variable, ValidVariable, spell_constant, spell_operand, ValidOperand, spell_operator, spell_expression, spell, Valid}
use Rattle.language.specs.declared.Operand.{Operand}
use Rattle.language.specs.declared.Operand.TheVariants.{Variable, Constant}
use Rattle.language.specs.declared.Operator.{Operator}
use Rattle.language.specs.declared.Operator.TheVariants.{Add, Subtract, Multiply, Less, Equal, Divide}
use Rattle.language.specs.declared.Expression.TheVariants.{Single, Binary}
use Rattle.language.specs.declared.Statement.{Statement}
use Rattle.language.specs.declared.Statement.TheVariants.{Read, Write, Assign, Branch, Skip}
use Rattle.language.proofs.Digits.{digits-small}
use Rattle.language.proofs.Constants.{constant-low, constant-high}
use Rattle.ctl.specs.Paths.{Quant, E, A, Direction, forward, backward}
use Rattle.condition.specs.declared.Atom.{Atom}
use Rattle.condition.specs.declared.Atom.TheVariants as atom
use Rattle.condition.specs.Condition as condition
use Rattle.condition.specs.Condition.{PathUnary, next, finally, globally, PathBinary, until, weak, Unary, negation, conjunction, disjunction, Condition, unary, binary, quant_letter, unary_letter, binary_letter, spell_atom, ValidAtom, spell_condition, ValidCondition}
use Rattle.viable.specs.Grammar.{rows, word, none, rule_in, capital, bound_of}
use Rattle.viable.proofs.Complete.{binary-text, branch-text}
use Rattle.viable.proofs.Languages.{Spelled, Then, OfCondition, OfRound, OfSquare, OfOperand, OfStatement, OfExpression, OfRest, Of, Words}

-- digits that may follow the value n below the bound b
pub record More (b n : ℕ) (ds : List ℕ) : Type 0 where
  pub whole : ℕ
  pub below : whole < b
  pub spelled : digits whole ≡ digits n ++ ds

abbrev pub MoreOf : ℕ → ℕ → List ℕ → Type 0
MoreOf b n ds = (ds ≡ []) ⊎ More b n ds

-- a row for one byte, and one for the digits 1 to 9
abbrev pub RightBy : Bool → (List ℕ → Type 0) → ℕ → ℕ → List ℕ → Type 0
RightBy false K i c w = (v : List ℕ) → Words w K v → Then (Of i) K (c ∷ v)
RightBy true K i c w = (d : ℕ) (ds : List ℕ) → 0 < d → d < 10 → MoreOf (bound_of i) d ds → (v : List ℕ) → Words w K v → Then (Of i) K ((48 + d) ∷ (ds ++ v))

abbrev pub Right : (List ℕ → Type 0) → ℕ → ℕ → List ℕ → Type 0
Right K i c w = RightBy (eqb c (byte "1")) K i c w

-- items that are all bytes
abbrev literals : List ℕ → Bool
literals [] = true
literals (i ∷ w) = not (capital i) && literals w

-- taking a text apart
module _ {C : Type 0} where
  item : {P K : List ℕ → Type 0} {v : List ℕ} → Then P K v → ((f r : List ℕ) → v ≡ f ++ r → P f → K r → C) → C
  item a k = k a.front a.rest a.text a.is a.follows

  chars : (w : List ℕ) → literals w ≡ true → {K : List ℕ → Type 0} {v : List ℕ} → Words w K v → ((u : List ℕ) → v ≡ w ++ u → K u → C) → C
  chars [] h {v = v} a k = k v refl a
  chars (i ∷ w) h {K} {v} a k =
      let z = false_of_not (capital i) (and_left (not (capital i)) (literals w) h) in
      let o : a.front ≡ i ∷ [] = rw z at a.is in
      let l = and_right (not (capital i)) (literals w) h in
      chars w l {K = K} {v = a.rest} a.follows λ u e b. k u (a.text ∙ rw (o, e)) b

-- putting one together: the byte c, a word and what follows
make : {P K : List ℕ → Type 0} {v : List ℕ} (f r : List ℕ) → v ≡ f ++ r → P f → K r → Then P K v
make f r e p k = record { front = f; rest = r; text = e; is = p; follows = k }

-- ---- conditions

negated : {f : List ℕ} → OfCondition f → OfCondition (byte "!" ∷ f)
unfolding spell_condition
negated p = record { value = unary negation p.value; good = p.good; is = rw p.is }

pathed : (d : Direction) (o : PathUnary) {f : List ℕ} → OfCondition f → (k : Quant) → OfCondition (quant_letter k ∷ unary_letter d o ∷ byte " " ∷ f)
unfolding spell_condition
pathed d o p k = record { value = unary (Unary.path k d o) p.value; good = p.good; is = rw p.is }

row-not : (K : List ℕ → Type 0) → Right K (byte "C") (byte "!") (bytes "C")
row-not K v a = item a λ f r e p k. make (byte "!" ∷ f) r (rw e) (negated p) k

row-some : (K : List ℕ → Type 0) → Right K (byte "C") (byte "E") (bytes "Q")
row-some K v a = item a λ f r e p k. make (byte "E" ∷ f) r (rw e) (p E) k

row-all : (K : List ℕ → Type 0) → Right K (byte "C") (byte "A") (bytes "Q")
row-all K v a = item a λ f r e p k. make (byte "A" ∷ f) r (rw e) (p A) k

row-path : (d : Direction) (o : PathUnary) (K : List ℕ → Type 0) (v : List ℕ) → Words (bytes " C") K v → Then (Of (byte "Q")) K (unary_letter d o ∷ v)
row-path d o K v a = chars (bytes " ") refl {K = Words (bytes "C") K} a λ u g b. item b λ f r e p k. make (unary_letter d o ∷ byte " " ∷ f) r (rw (g, e)) (pathed d o p) k

row-round : (K : List ℕ → Type 0) → Right K (byte "C") (byte "(") (bytes "CJC)")
row-round K v a =
    item a λ f r e p b.
    item b λ g s e₁ j b₁.
    item b₁ λ h t e₂ q b₂.
    chars (bytes ")") refl {K = K} b₂ λ u e₃ k.
    make (byte "(" ∷ (f ++ (g ++ (h ++ bytes ")")))) u (rw (e, e₁, e₂, e₃) (simp append_assoc)) (rw (p.is, q.is) (j p.value q.value p.good q.good)) k

row-square : (K : List ℕ → Type 0) → Right K (byte "Q") (byte "[") (bytes "CKC]")
row-square K v a =
    item a λ f r e p b.
    item b λ g s e₁ j b₁.
    item b₁ λ h t e₂ q b₂.
    chars (bytes "]") refl {K = K} b₂ λ u e₃ k.
    make (byte "[" ∷ (f ++ (g ++ (h ++ bytes "]")))) u (rw (e, e₁, e₂, e₃) (simp append_assoc)) (λ l. rw (p.is, q.is) (j l p.value q.value p.good q.good)) k

row-round-space : (K : List ℕ → Type 0) → Right K (byte "J") (byte " ") (bytes "H")
row-round-space K v a = item a λ f r e p k. make (byte " " ∷ f) r (rw e) p k

row-square-space : (K : List ℕ → Type 0) → Right K (byte "K") (byte " ") (bytes "L")
row-square-space K v a = item a λ f r e p k. make (byte " " ∷ f) r (rw e) p k

joined : (o : condition.Binary) (p q : Condition) → ValidCondition p → ValidCondition q → OfCondition (spell_condition (binary o p q))
joined o p q a b = record { value = binary o p q; good = (a, b); is = refl }

row-and : (K : List ℕ → Type 0) → Right K (byte "H") (byte "&") (bytes " ")
unfolding spell_condition
row-and K v a = chars (bytes " ") refl {K = K} a λ u e k. make (bytes "& ") u (rw e) (joined conjunction) k

row-or : (K : List ℕ → Type 0) → Right K (byte "H") (byte "|") (bytes " ")
unfolding spell_condition
row-or K v a = chars (bytes " ") refl {K = K} a λ u e k. make (bytes "| ") u (rw e) (joined disjunction) k

row-between : (d : Direction) (o : PathBinary) (K : List ℕ → Type 0) (v : List ℕ) → Words (bytes " ") K v → Then (Of (byte "L")) K (binary_letter d o ∷ v)
unfolding spell_condition
row-between d o K v a = chars (bytes " ") refl {K = K} a λ u e k. make (binary_letter d o ∷ bytes " ") u (rw e) (λ q. joined (condition.Binary.path q d o)) k

-- ---- atoms

an-atom : (a : Atom) → ValidAtom a → OfCondition (spell_atom a)
unfolding spell_condition
an-atom a v = record { value = condition.atom a; good = v; is = refl }

row-tr : (K : List ℕ → Type 0) → Right K (byte "C") (byte "t") (bytes "rT")
row-tr K v a = chars (bytes "r") refl {K = Words (bytes "T") K} a λ u g b. item b λ f r e p k. make (bytes "tr" ++ f) r (rw (g, e)) p k

row-true : (K : List ℕ → Type 0) → Right K (byte "T") (byte "u") (bytes "e")
unfolding spell_atom
row-true K v a = chars (bytes "e") refl {K = K} a λ u e k. make (bytes "ue") u (rw e) (an-atom atom.True tt) k

row-trans : (K : List ℕ → Type 0) → Right K (byte "T") (byte "a") (bytes "ns(X")
unfolding spell_atom
row-trans K v a =
    chars (bytes "ns(") refl {K = Words (bytes "X") K} a λ u g b.
    item b λ f r e p k.
    make (bytes "ans(" ++ f) r (rw (g, e)) (rw p.is (an-atom (atom.Trans p.value) p.good)) k

row-false : (K : List ℕ → Type 0) → Right K (byte "C") (byte "f") (bytes "alse")
unfolding spell_atom
row-false K v a = chars (bytes "alse") refl {K = K} a λ u e k. make (bytes "false") u (rw e) (an-atom atom.False tt) k

row-e : (K : List ℕ → Type 0) → Right K (byte "C") (byte "e") (bytes "Z")
row-e K v a = item a λ f r e p k. make (byte "e" ∷ f) r (rw e) p k

row-entry : (K : List ℕ → Type 0) → Right K (byte "Z") (byte "n") (bytes "try")
unfolding spell_atom
row-entry K v a = chars (bytes "try") refl {K = K} a λ u e k. make (bytes "ntry") u (rw e) (an-atom atom.Entry tt) k

row-exit : (K : List ℕ → Type 0) → Right K (byte "Z") (byte "x") (bytes "it")
unfolding spell_atom
row-exit K v a = chars (bytes "it") refl {K = K} a λ u e k. make (bytes "xit") u (rw e) (an-atom atom.Exit tt) k

row-node : (K : List ℕ → Type 0) → Right K (byte "C") (byte "n") (bytes "ode(N)")
unfolding spell_atom
row-node K v a =
    chars (bytes "ode(") refl {K = Words (bytes "N)") K} a λ u g b.
    item b λ f r e p b₁.
    chars (bytes ")") refl {K = K} b₁ λ s e₁ k.
    make (bytes "node(" ++ (f ++ bytes ")")) s (rw (g, e, e₁) (simp append_assoc)) (rw p.is (an-atom (atom.Node p.value) p.good)) k

row-stmt : (K : List ℕ → Type 0) → Right K (byte "C") (byte "s") (bytes "tmt(S")
unfolding spell_atom
row-stmt K v a =
    chars (bytes "tmt(") refl {K = Words (bytes "S") K} a λ u g b.
    item b λ f r e p k.
    make (bytes "stmt(" ++ f) r (rw (g, e)) (rw p.is (an-atom (atom.Stmt p.value) p.good)) k

row_def : (K : List ℕ → Type 0) → Right K (byte "C") (byte "d") (bytes "ef(V)")
unfolding spell_atom
row_def K v a =
    chars (bytes "ef(") refl {K = Words (bytes "V)") K} a λ u g b.
    item b λ f r e p b₁.
    chars (bytes ")") refl {K = K} b₁ λ s e₁ k.
    make (bytes "def(" ++ (f ++ bytes ")")) s (rw (g, e, e₁) (simp append_assoc)) (rw p.is (an-atom (atom.Def p.value) p.good)) k

row-use : (K : List ℕ → Type 0) → Right K (byte "C") (byte "u") (bytes "se(V)")
unfolding spell_atom
row-use K v a =
    chars (bytes "se(") refl {K = Words (bytes "V)") K} a λ u g b.
    item b λ f r e p b₁.
    chars (bytes ")") refl {K = K} b₁ λ s e₁ k.
    make (bytes "use(" ++ (f ++ bytes ")")) s (rw (g, e, e₁) (simp append_assoc)) (rw p.is (an-atom (atom.Use p.value) p.good)) k

-- ---- numbers

-- the first digit, and those that follow it
first-digits : (b d : ℕ) (ds : List ℕ) → 0 < d → d < 10 → 9 < b → MoreOf b d ds → Spelled digits (λ m. (0 < m) × (m < b)) ((48 + d) ∷ ds)
first-digits b d ds p q r (inl e) = record { value = d; good = (p, omega arith); is = rw e (sym (digits-small d q)) }
first-digits b d ds p q r (inr m) =
    let e : digits m.whole ≡ (48 + d) ∷ ds = m.spelled ∙ rw (digits-small d q) in
    record { value = m.whole; good = (go (dec_lt 0 m.whole) e, m.below); is = sym e }
  where
    go : Dec (0 < m.whole) → digits m.whole ≡ (48 + d) ∷ ds → 0 < m.whole
    go (yes h) e = h
    go (no h) e =
        let z : m.whole ≡ 0 = omega arith in
        let f : 48 ∷ [] ≡ (48 + d) ∷ ds = sym (digits-small 0 (omega arith)) ∙ ap digits (sym z) ∙ e in
        absurd (omega (arith, ap (λ (l : List ℕ). get_or l 0 0) f))

zero-digits : digits 0 ≡ 48 ∷ []
zero-digits = digits-small 0 (omega arith)

row-name : (K : List ℕ → Type 0) → Right K (byte "V") (byte "i") (bytes "D")
unfolding spell_variable
row-name K v a = item a λ f r e p k. make (byte "i" ∷ f) r (rw e) (record { value = p.value; good = p.good; is = rw p.is }) k

row-name-zero : (K : List ℕ → Type 0) → Right K (byte "D") (byte "0") []
row-name-zero K v a = make (48 ∷ []) v refl (record { value = 0; good = omega arith; is = sym zero-digits }) a

row-name-one : (K : List ℕ → Type 0) → Right K (byte "D") (byte "1") []
unfolding bound_of
row-name-one K d ds p q m v a =
    let s = first-digits variables d ds p q (omega arith) m in
    make ((48 + d) ∷ ds) v refl (record { value = s.value; good = s.good.1; is = s.is }) a

row-number-zero : (K : List ℕ → Type 0) → Right K (byte "N") (byte "0") []
row-number-zero K v a = make (48 ∷ []) v refl (record { value = 0; good = omega arith; is = sym zero-digits }) a

row-number-one : (K : List ℕ → Type 0) → Right K (byte "N") (byte "1") []
unfolding bound_of
row-number-one K d ds p q m v a =
    let s = first-digits (largest + 1) d ds p q (omega arith) m in
    let h = s.good.1 in
    make ((48 + d) ∷ ds) v refl (record { value = s.value; good = omega arith; is = s.is }) a

row-magnitude : (K : List ℕ → Type 0) → Right K (byte "M") (byte "1") []
unfolding bound_of
row-magnitude K d ds p q m v a =
    let s = first-digits (2 ^ 31 + 1) d ds p q (omega arith) m in
    let h = s.good.1 in
    make ((48 + d) ∷ ds) v refl (record { value = s.value; good = (s.good.0, omega arith); is = s.is }) a

-- ---- operands

variable-operand : {f : List ℕ} → Spelled digits ValidVariable f → OfOperand (byte "i" ∷ f)
unfolding spell_operand spell_variable
variable-operand p = record { value = Variable p.value; good = p.good; is = rw p.is }

minus-operand : {f : List ℕ} → Spelled digits (λ m. (0 < m) × (m ≤ 2 ^ 31)) f → OfOperand (byte "-" ∷ f)
unfolding spell_operand
minus-operand p =
    let m = p.value in
    let h = p.good in
    let e : 2 ^ 32 - (2 ^ 32 - m) ≡ m = omega arith in
    let s : spell_constant (2 ^ 32 - m) ≡ 45 ∷ digits m = constant-high (2 ^ 32 - m) (omega arith) (omega arith) ∙ rw e in
    record { value = Constant (2 ^ 32 - m); good = omega arith; is = rw p.is (sym s) }

number-operand : (n : ℕ) → n ≤ largest → OfOperand (digits n)
unfolding spell_operand
number-operand n h = record { value = Constant n; good = omega arith; is = sym (constant-low n h) }

zero-operand : OfOperand (48 ∷ [])
zero-operand = rw zero-digits at (number-operand 0 (omega arith))

first-operand : (d : ℕ) (ds : List ℕ) → 0 < d → d < 10 → MoreOf (largest + 1) d ds → OfOperand ((48 + d) ∷ ds)
first-operand d ds p q m =
    let s = first-digits (largest + 1) d ds p q (omega arith) m in
    let h = s.good.1 in
    rw s.is (number-operand s.value (omega arith))

row-operand-variable : (K : List ℕ → Type 0) → Right K (byte "A") (byte "i") (bytes "D")
row-operand-variable K v a = item a λ f r e p k. make (byte "i" ∷ f) r (rw e) (variable-operand p) k

row-operand-minus : (K : List ℕ → Type 0) → Right K (byte "A") (byte "-") (bytes "M")
row-operand-minus K v a = item a λ f r e p k. make (byte "-" ∷ f) r (rw e) (minus-operand p) k

row-operand-zero : (K : List ℕ → Type 0) → Right K (byte "A") (byte "0") []
row-operand-zero K v a = make (48 ∷ []) v refl zero-operand a

row-operand-one : (K : List ℕ → Type 0) → Right K (byte "A") (byte "1") []
unfolding bound_of
row-operand-one K d ds p q m v a = make ((48 + d) ∷ ds) v refl (first-operand d ds p q m) a

-- ---- expressions

-- an operand and what follows it
with_rest : {f : List ℕ} (g : List ℕ) → OfOperand f → OfRest g → OfExpression (f ++ g)
with_rest g o r = rw o.is (r o.value o.good)

row-expression-variable : (K : List ℕ → Type 0) → Right K (byte "X") (byte "i") (bytes "DR")
row-expression-variable K v a =
    item a λ f r e p b.
    item b λ g s e₁ q k.
    make (byte "i" ∷ (f ++ g)) s (rw (e, e₁) (simp append_assoc)) (with_rest g (variable-operand p) q) k

row-expression-minus : (K : List ℕ → Type 0) → Right K (byte "X") (byte "-") (bytes "MR")
row-expression-minus K v a =
    item a λ f r e p b.
    item b λ g s e₁ q k.
    make (byte "-" ∷ (f ++ g)) s (rw (e, e₁) (simp append_assoc)) (with_rest g (minus-operand p) q) k

row-expression-zero : (K : List ℕ → Type 0) → Right K (byte "X") (byte "0") (bytes "R")
row-expression-zero K v a = item a λ g s e q k. make (byte "0" ∷ g) s (rw e) (with_rest g zero-operand q) k

row-expression-one : (K : List ℕ → Type 0) → Right K (byte "X") (byte "1") (bytes "R")
unfolding bound_of
row-expression-one K d ds p h m v a =
    item a λ g s e q k. make ((48 + d) ∷ (ds ++ g)) s (rw e (simp append_assoc)) (with_rest g (first-operand d ds p h m) q) k

row-single : (K : List ℕ → Type 0) → Right K (byte "R") (byte ")") []
unfolding spell_expression
row-single K v a = make (bytes ")") v refl (λ o w. record { value = Single o; good = w; is = refl }) a

row-rest-space : (K : List ℕ → Type 0) → Right K (byte "R") (byte " ") (bytes "O")
row-rest-space K v a = item a λ f r e p k. make (byte " " ∷ f) r (rw e) p k

row-operator : (o : Operator) (K : List ℕ → Type 0) (v : List ℕ) → Words (bytes " A)") K v → Then (Of (byte "O")) K (spell_operator o ∷ v)
row-operator o K v a =
    chars (bytes " ") refl {K = Words (bytes "A)") K} a λ u g b.
    item b λ f r e p b₁.
    chars (bytes ")") refl {K = K} b₁ λ s e₁ k.
    make (spell_operator o ∷ byte " " ∷ (f ++ bytes ")")) s (rw (g, e, e₁) (simp append_assoc)) (λ l w. binary-expression l w p) k
  where
    binary-expression : (l : Operand) → ValidOperand l → {f : List ℕ} → OfOperand f → OfExpression (spell_operand l ++ byte " " ∷ spell_operator o ∷ byte " " ∷ (f ++ bytes ")"))
    binary-expression l w p = record { value = Binary l o p.value; good = (w, p.good); is = rw p.is (sym (binary-text l o p.value (bytes ")"))) }

-- ---- statements

a-statement : (s : Statement) → Valid s → OfStatement (spell s ++ bytes ")")
a-statement s v = record { value = s; good = v; is = refl }

row_read : (K : List ℕ → Type 0) → Right K (byte "S") (byte "r") (bytes "ead V)")
unfolding spell
row_read K v a =
    chars (bytes "ead ") refl {K = Words (bytes "V)") K} a λ u g b.
    item b λ f r e p b₁.
    chars (bytes ")") refl {K = K} b₁ λ s e₁ k.
    make (bytes "read " ++ (f ++ bytes ")")) s (rw (g, e, e₁) (simp append_assoc)) (rw p.is (a-statement (Read p.value) p.good)) k

row_write : (K : List ℕ → Type 0) → Right K (byte "S") (byte "w") (bytes "rite V)")
unfolding spell
row_write K v a =
    chars (bytes "rite ") refl {K = Words (bytes "V)") K} a λ u g b.
    item b λ f r e p b₁.
    chars (bytes ")") refl {K = K} b₁ λ s e₁ k.
    make (bytes "write " ++ (f ++ bytes ")")) s (rw (g, e, e₁) (simp append_assoc)) (rw p.is (a-statement (Write p.value) p.good)) k

row-skip : (K : List ℕ → Type 0) → Right K (byte "S") (byte "s") (bytes "kip)")
unfolding spell
row-skip K v a = chars (bytes "kip)") refl {K = K} a λ u e k. make (bytes "skip)") u (rw e) (a-statement Skip tt) k

row-i : (K : List ℕ → Type 0) → Right K (byte "S") (byte "i") (bytes "I")
row-i K v a = item a λ f r e p k. make (byte "i" ∷ f) r (rw e) p k

row-if : (K : List ℕ → Type 0) → Right K (byte "I") (byte "f") (bytes " V goto N else N)")
row-if K v a =
    chars (bytes " ") refl {K = Words (bytes "V goto N else N)") K} a λ u g b.
    item b λ f r e x b₁.
    chars (bytes " goto ") refl {K = Words (bytes "N else N)") K} b₁ λ u₁ g₁ b₂.
    item b₂ λ f₁ r₁ e₁ n b₃.
    chars (bytes " else ") refl {K = Words (bytes "N)") K} b₃ λ u₂ g₂ b₄.
    item b₄ λ f₂ r₂ e₂ m b₅.
    chars (bytes ")") refl {K = K} b₅ λ s g₃ k.
    make (bytes "f " ++ (f ++ (bytes " goto " ++ (f₁ ++ (bytes " else " ++ (f₂ ++ bytes ")")))))) s
    (rw (g, e, g₁, e₁, g₂, e₂, g₃) (simp append_assoc))
    (rw (x.is, n.is, m.is) (record { value = Branch x.value n.value m.value; good = (x.good, n.good, m.good); is = sym (branch-text x.value n.value m.value (bytes ")")) }))
    k

assigned : {f g : List ℕ} → Spelled digits ValidVariable f → OfExpression g → OfStatement (byte "i" ∷ (f ++ (bytes " := " ++ g)))
unfolding spell spell_variable
assigned x e = record { value = Assign x.value e.value; good = (x.good, e.good); is = rw (x.is, e.is) (simp append_assoc) }

row-assign-zero : (K : List ℕ → Type 0) → Right K (byte "I") (byte "0") (bytes " := X")
row-assign-zero K v a =
    chars (bytes " := ") refl {K = Words (bytes "X") K} a λ u g b.
    item b λ f r e p k.
    make (byte "0" ∷ (bytes " := " ++ f)) r (rw (g, e)) (assigned (record { value = 0; good = omega arith; is = sym zero-digits }) p) k

row-assign-one : (K : List ℕ → Type 0) → Right K (byte "I") (byte "1") (bytes " := X")
unfolding bound_of
row-assign-one K d ds p h m v a =
    let x = first-digits variables d ds p h (omega arith) m in
    chars (bytes " := ") refl {K = Words (bytes "X") K} a λ u g b.
    item b λ f r e q k.
    make ((48 + d) ∷ (ds ++ (bytes " := " ++ f))) r (rw (g, e) (simp append_assoc)) (assigned (record { value = x.value; good = x.good.1; is = x.is }) q) k

-- ---- the table

abbrev All : (List ℕ → Type 0) → List (List ℕ) → Type 0
All K [] = Unit
All K (r ∷ rs) = Right K (get_or r 0 0) (get_or r 1 0) (drop 2 r) × All K rs

all_right : (K : List ℕ → Type 0) → All K rows
all_right K = (
  row-not K,
  (
    row-some K,
    (
      row-all K,
      (
        row-round K,
        (
          row-tr K,
          (
            row-false K,
            (
              row-e K,
              (
                row-node K,
                (
                  row-stmt K,
                  (
                    row_def K,
                    (
                      row-use K,
                      (
                        row-path forward next K,
                        (
                          row-path forward finally K,
                          (
                            row-path forward globally K,
                            (
                              row-path backward next K,
                              (
                                row-path backward finally K,
                                (
                                  row-path backward globally K,
                                  (
                                    row-square K,
                                    (
                                      row-round-space K,
                                      (
                                        row-and K,
                                        (
                                          row-or K,
                                          (
                                            row-square-space K,
                                            (
                                              row-between forward until K,
                                              (
                                                row-between forward weak K,
                                                (
                                                  row-between backward until K,
                                                  (
                                                    row-between backward weak K,
                                                    (
                                                      row-true K,
                                                      (
                                                        row-trans K,
                                                        (
                                                          row-entry K,
                                                          (
                                                            row-exit K,
                                                            (
                                                              row_read K,
                                                              (
                                                                row_write K,
                                                                (
                                                                  row-skip K,
                                                                  (
                                                                    row-i K,
                                                                    (
                                                                      row-if K,
                                                                      (
                                                                        row-assign-zero K,
                                                                        (
                                                                          row-assign-one K,
                                                                          (
                                                                            row-expression-variable K,
                                                                            (
                                                                              row-expression-minus K,
                                                                              (
                                                                                row-expression-zero K,
                                                                                (
                                                                                  row-expression-one K,
                                                                                  (
                                                                                    row-single K,
                                                                                    (
                                                                                      row-rest-space K,
                                                                                      (
                                                                                        row-operator Add K,
                                                                                        (
                                                                                          row-operator Subtract K,
                                                                                          (
                                                                                            row-operator Multiply K,
                                                                                            (
                                                                                              row-operator Less K,
                                                                                              (
                                                                                                row-operator Equal K,
                                                                                                (
                                                                                                  row-operator Divide K,
                                                                                                  (
                                                                                                    row-operand-variable K,
                                                                                                    (
                                                                                                      row-operand-minus K,
                                                                                                      (
                                                                                                        row-operand-zero K,
                                                                                                        (
                                                                                                          row-operand-one K,
                                                                                                          (
                                                                                                            row-magnitude K,
                                                                                                            (row-name K, (row-name-zero K, (row-name-one K, (row-number-zero K, (row-number-one K, tt))))),
                                                                                                          ),
                                                                                                        ),
                                                                                                      ),
                                                                                                    ),
                                                                                                  ),
                                                                                                ),
                                                                                              ),
                                                                                            ),
                                                                                          ),
                                                                                        ),
                                                                                      ),
                                                                                    ),
                                                                                  ),
                                                                                ),
                                                                              ),
                                                                            ),
                                                                          ),
                                                                        ),
                                                                      ),
                                                                    ),
                                                                  ),
                                                                ),
                                                              ),
                                                            ),
                                                          ),
                                                        ),
                                                      ),
                                                    ),
                                                  ),
                                                ),
                                              ),
                                            ),
                                          ),
                                        ),
                                      ),
                                    ),
                                  ),
                                ),
                              ),
                            ),
                          ),
                        ),
                      ),
                    ),
                  ),
                ),
              ),
            ),
          ),
        ),
      ),
    ),
  ),
)

found_right : (K : List ℕ → Type 0) (rs : List (List ℕ)) → All K rs → (i c : ℕ) (w : List ℕ) → rule_in rs i c ≡ word w → Right K i c w
found_right K [] h i c w e = let z : ◌≡◌ {A = ℕ} 0 1 = cc in absurd (omega arith)
found_right K (r ∷ rs) h i c w e = go (eqb (get_or r 0 0) i && eqb (get_or r 1 0) c) refl e (found_right K rs h.1 i c w)
  where
    go : (b : Bool) → (eqb (get_or r 0 0) i && eqb (get_or r 1 0) c) ≡ b → pick b (word (drop 2 r)) (rule_in rs i c) ≡ word w → (rule_in rs i c ≡ word w → Right K i c w) → Right K i c w
    go true t f ih =
        let p = eqb-true (get_or r 0 0) i (and_left (eqb (get_or r 0 0) i) (eqb (get_or r 1 0) c) t) in
        let q = eqb-true (get_or r 1 0) c (and_right (eqb (get_or r 0 0) i) (eqb (get_or r 1 0) c) t) in
        let s : drop 2 r ≡ w = cc in
        rw (p, q, s) at h.0
    go false t f ih = ih f

-- whatever row applies is right
pub row-right : (K : List ℕ → Type 0) (i c : ℕ) (w : List ℕ) → rule_in rows i c ≡ word w → Right K i c w
row-right K i c w e = found_right K rows (all_right K) i c w e
