-- What is spelled is read to its end. Assumes nothing.
use mathlib.Core.Path.{◌≡◌, refl, ap, sym, ◌∙◌}
use mathlib.Core.List.{List, [], ◌∷◌, ◌++◌, append_assoc, append-nil}
use mathlib.Core.Bool.{Bool, true, false, ◌&&◌}
use Prim.Native.Nat.{ℕ, zero, suc, ◌+◌, ◌-◌, ◌*◌, ◌/◌, ◌%◌, ◌^◌, ◌≤◌, ◌<◌}
use native.Mathlib.Decide.{dec_lt}
use native.Mathlib.Omega.{arith}
use lib.Dec.{ltb, leb, eqb}
use borrow.Author.Tests.{lt-ltb, le-leb, lt-leb, ltb-true, ltb-false}
use Rattle.base.specs.Bytes.{bytes, byte}
use Rattle.base.specs.Pick.{pick}
use Rattle.language.specs.Spelling.{variables, largest, digits, spell_variable, ValidVariable, spell_constant, spell_operand, ValidOperand, spell_operator, spell_expression, ValidExpression, becomes_word, if_word, goto_word, else_word, spell, Valid}
use Rattle.language.specs.declared.Operand.{Operand}
use Rattle.language.specs.declared.Operand.TheVariants.{Variable, Constant}
use Rattle.language.specs.declared.Operator.{Operator}
use Rattle.language.specs.declared.Operator.TheVariants.{Add, Subtract, Multiply, Less, Equal, Divide}
use Rattle.language.specs.declared.Expression.{Expression}
use Rattle.language.specs.declared.Expression.TheVariants.{Single, Binary}
use Rattle.language.specs.declared.Statement.{Statement}
use Rattle.language.specs.declared.Statement.TheVariants.{Read, Write, Assign, Branch, Skip}
use Rattle.language.proofs.Digits.{digits-small, digits-next}
use Rattle.language.proofs.Constants.{constant-low, constant-high}
use Rattle.ctl.specs.Paths.{E, A, forward, backward}
use Rattle.condition.specs.declared.Atom.{Atom}
use Rattle.condition.specs.declared.Atom.TheVariants as atom
use Rattle.condition.specs.Condition as condition
use Rattle.condition.specs.Condition.{next, finally, globally, until, weak, Unary, negation, conjunction, disjunction, Condition, unary, binary, prefix, opening, middle, closing, spell_atom, ValidAtom, spell_condition, ValidCondition}
use Rattle.condition.specs.Texts.{Spells}
use Rattle.condition_reader.proofs.Spelling as readers
use Rattle.viable.specs.Grammar as grammar
use Rattle.viable.specs.Grammar.{word, none, nonzero, class_of, capital, expand, bound_of, Reached, at, nowhere, more, step, steps, start}

pub steps-append : (r : Reached) (t u : List ℕ) → steps r (t ++ u) ≡ steps (steps r t) u
unfolding steps
steps-append r [] u = refl
steps-append r (c ∷ t) u = steps-append (grammar.next r c) t u

pub steps-nowhere : (t : List ℕ) → steps nowhere t ≡ nowhere
unfolding steps
steps-nowhere [] = refl
steps-nowhere (c ∷ t) = steps-nowhere t

-- a number's first digit, and its others
module _ (d : ℕ) (h : 0 < d) (k : d < 10) where
  pub nonzero-digit : nonzero (48 + d) ≡ true
  nonzero-digit = rw (le-leb 49 (48 + d) (omega arith), le-leb (48 + d) 57 (omega arith))

more-digit : (b n d : ℕ) → 0 < n → d < 10 → n * 10 + d < b → more b n (48 + d) ≡ true
unfolding more
more-digit b n d p q r =
    let e : (48 + d) - 48 ≡ d = omega arith in
    rw (le-leb 48 (48 + d) (omega arith), le-leb (48 + d) 57 (omega arith), lt-ltb 0 n p, e, lt-ltb (n * 10 + d) b r)

pub more-none : (b c : ℕ) → more b 0 c ≡ false
unfolding more
more-none b c = go (leb 48 c && leb c 57)
  where
    go : (a : Bool) → (a && false) ≡ false
    go true = refl
    go false = refl

-- the item i holds a number, after which w is expected
module _ (i : ℕ) (w st : List ℕ) (big : capital i ≡ true) (one : (c : ℕ) → nonzero c ≡ true → expand i c ≡ word w) where
  first_run : (d : ℕ) (l : List ℕ) → 0 < d → d < 10 → steps (at 0 0 (i ∷ st)) ((48 + d) ∷ l) ≡ steps (at (bound_of i) d (w ++ st)) l
  unfolding steps step
  first_run d l h k =
      let e : (48 + d) - 48 ≡ d = omega arith in
      rw (more-none 0 (48 + d), big, one (48 + d) (nonzero-digit d h k), nonzero-digit d h k, e)

  number_more : (fuel v : ℕ) (l : List ℕ) → v < fuel → 0 < v → v < bound_of i → steps (at 0 0 (i ∷ st)) (digits v ++ l) ≡ steps (at (bound_of i) v (w ++ st)) l
  unfolding steps step
  number_more zero v l p q r = absurd (omega arith)
  number_more (suc fuel) v l p q r = go (ltb v 10) refl (λ t a b c. number_more fuel (v / 10) t a b c)
    where
      go : (b : Bool) → ltb v 10 ≡ b
          → ((t : List ℕ) → v / 10 < fuel → 0 < v / 10 → v / 10 < bound_of i → steps (at 0 0 (i ∷ st)) (digits (v / 10) ++ t) ≡ steps (at (bound_of i) (v / 10) (w ++ st)) t)
          → steps (at 0 0 (i ∷ st)) (digits v ++ l) ≡ steps (at (bound_of i) v (w ++ st)) l
      go true e ih = let h : v < 10 = ltb-true v 10 e in rw (digits-small v h) (first_run v l q h)
      go false e ih =
          let h : 10 ≤ v = ltb-false v 10 e in
          let a : v ≡ v / 10 * 10 + v % 10 = omega arith in
          let k : v % 10 < 10 = omega arith in
          let f : (48 + v % 10) - 48 ≡ v % 10 = omega arith in
          rw (digits-next v h, append_assoc)
          (ih ((48 + v % 10) ∷ l) (omega arith) (omega arith) (omega arith)
          ∙ rw (more-digit (bound_of i) (v / 10) (v % 10) (omega arith) k (omega arith), f) (ap (λ (n : ℕ). steps (at (bound_of i) n (w ++ st)) l) (sym a)))

-- a byte that is no digit ends the number
ends : (b n x : ℕ) (st l : List ℕ) → ((a : Bool) → ((leb 48 x && leb x 57) && a) ≡ false) → steps (at b n st) (x ∷ l) ≡ steps (at 0 0 st) (x ∷ l)
unfolding steps step more
ends b n x st l h = rw (h (ltb 0 n && ltb (n * 10 + (x - 48)) b), h (ltb 0 0 && ltb (0 * 10 + (x - 48)) 0))

-- the byte x is no digit
abbrev NoDigit : ℕ → Type 0
NoDigit x = (a : Bool) → ((leb 48 x && leb x 57) && a) ≡ false

-- after a number's first digit w is expected
record Holds (i : ℕ) (w : List ℕ) : Type 0 where
  big : capital i ≡ true
  zero_digit : expand i 48 ≡ word w
  one_digit : (c : ℕ) → nonzero c ≡ true → expand i c ≡ word w

module _ (i : ℕ) (w st : List ℕ) where
  nonzero-run : capital i ≡ true → ((c : ℕ) → nonzero c ≡ true → expand i c ≡ word w) → (v x : ℕ) (l : List ℕ) → 0 < v → v < bound_of i → NoDigit x
      → steps (at 0 0 (i ∷ st)) (digits v ++ x ∷ l) ≡ steps (at 0 0 (w ++ st)) (x ∷ l)
  nonzero-run big one v x l p q h = number_more i w st big one (suc v) v (x ∷ l) (omega arith) p q ∙ ends (bound_of i) v x (w ++ st) l h

  -- a byte that begins no number
  byte-run : capital i ≡ true → (c : ℕ) → nonzero c ≡ false → expand i c ≡ word w → (l : List ℕ) → steps (at 0 0 (i ∷ st)) (c ∷ l) ≡ steps (at 0 0 (w ++ st)) l
  unfolding steps step
  byte-run big c z e l = rw (more-none 0 c, big, e, z)

  number-run : Holds i w → (v x : ℕ) (l : List ℕ) → v < bound_of i → NoDigit x → steps (at 0 0 (i ∷ st)) (digits v ++ x ∷ l) ≡ steps (at 0 0 (w ++ st)) (x ∷ l)
  number-run o zero x l q h = rw (digits-small 0 (omega arith)) (byte-run o.big 48 refl o.zero_digit (x ∷ l))
  number-run o (suc v) x l q h = nonzero-run o.big o.one_digit (suc v) x l (omega arith) q h

variable-holds : Holds (byte "D") []
unfolding expand
variable-holds = record { big = refl; zero_digit = refl; one_digit = λ c e. rw e }

number-holds : Holds (byte "N") []
unfolding expand
number-holds = record { big = refl; zero_digit = refl; one_digit = λ c e. rw e }

assigned-holds : Holds (byte "I") (bytes " := X")
unfolding expand
assigned-holds = record { big = refl; zero_digit = refl; one_digit = λ c e. rw e }

-- an item that begins with an operand, after which w is expected
record Operates (i : ℕ) (w : List ℕ) : Type 0 where
  variable : expand i (byte "i") ≡ word (byte "D" ∷ w)
  minus : expand i (byte "-") ≡ word (byte "M" ∷ w)
  number : Holds i w
  bound : bound_of i ≡ largest + 1

operand-operates : Operates (byte "A") []
unfolding expand bound_of
operand-operates = record { variable = refl; minus = refl; number = record { big = refl; zero_digit = refl; one_digit = λ c e. rw e }; bound = refl }

expression-operates : Operates (byte "X") (bytes "R")
unfolding expand bound_of
expression-operates = record { variable = refl; minus = refl; number = record { big = refl; zero_digit = refl; one_digit = λ c e. rw e }; bound = refl }

module _ (st l : List ℕ) (x : ℕ) (h : NoDigit x) where
  name-run : (v : ℕ) → ValidVariable v → steps (at 0 0 (byte "D" ∷ st)) (digits v ++ x ∷ l) ≡ steps (at 0 0 st) (x ∷ l)
  unfolding bound_of
  name-run v p = number-run (byte "D") [] st variable-holds v x l p h

  target_run : (n : ℕ) → n ≤ largest → steps (at 0 0 (byte "N" ∷ st)) (digits n ++ x ∷ l) ≡ steps (at 0 0 st) (x ∷ l)
  unfolding bound_of
  target_run n p = number-run (byte "N") [] st number-holds n x l (omega arith) h

  magnitude-run : (m : ℕ) → 0 < m → m ≤ 2 ^ 31 → steps (at 0 0 (byte "M" ∷ st)) (digits m ++ x ∷ l) ≡ steps (at 0 0 st) (x ∷ l)
  unfolding bound_of expand
  magnitude-run m p q = nonzero-run (byte "M") [] st refl (λ c e. rw e) m x l p (omega arith) h

variable-run : (st l : List ℕ) (x : ℕ) → NoDigit x → (v : ℕ) → ValidVariable v → steps (at 0 0 (byte "V" ∷ st)) (spell_variable v ++ x ∷ l) ≡ steps (at 0 0 st) (x ∷ l)
unfolding steps step more expand spell_variable
variable-run st l x h v p = name-run st l x h v p

operand-run : (i : ℕ) (w : List ℕ) → Operates i w → (st l : List ℕ) (x : ℕ) → NoDigit x → (a : Operand) → ValidOperand a
    → steps (at 0 0 (i ∷ st)) (spell_operand a ++ x ∷ l) ≡ steps (at 0 0 (w ++ st)) (x ∷ l)
unfolding spell_operand spell_variable
operand-run i w o st l x h (Variable v) p = byte-run i (byte "D" ∷ w) st o.number.big (byte "i") refl o.variable (digits v ++ x ∷ l) ∙ name-run (w ++ st) l x h v p
operand-run i w o st l x h (Constant n) p = go (dec_lt n (2 ^ 31))
  where
    go : Dec (n < 2 ^ 31) → steps (at 0 0 (i ∷ st)) (spell_constant n ++ x ∷ l) ≡ steps (at 0 0 (w ++ st)) (x ∷ l)
    go (yes m) = rw (constant-low n (omega arith)) (number-run i w st o.number n x l (rw o.bound (omega arith)) h)
    go (no m) =
        rw (constant-high n (omega arith) p)
        (byte-run i (byte "M" ∷ w) st o.number.big (byte "-") refl o.minus (digits (2 ^ 32 - n) ++ x ∷ l)
        ∙ magnitude-run (w ++ st) l x h (2 ^ 32 - n) (omega arith) (omega arith))

-- an expression, a statement, each with the `)` that follows
pub binary-text : (a : Operand) (o : Operator) (b : Operand) (rest : List ℕ) → spell_expression (Binary a o b) ++ rest ≡ spell_operand a ++ (32 ∷ spell_operator o ∷ 32 ∷ (spell_operand b ++ rest))
unfolding spell_expression
binary-text a o b rest = simp append_assoc

operator-run : (o : Operator) (st l : List ℕ) → steps (at 0 0 (byte "O" ∷ st)) (spell_operator o ∷ 32 ∷ l) ≡ steps (at 0 0 (byte "A" ∷ byte ")" ∷ st)) l
unfolding steps step more expand
operator-run Add st l = refl
operator-run Subtract st l = refl
operator-run Multiply st l = refl
operator-run Less st l = refl
operator-run Equal st l = refl
operator-run Divide st l = refl

expression-run : (e : Expression) (st l : List ℕ) → ValidExpression e → steps (at 0 0 (byte "X" ∷ st)) (spell_expression e ++ byte ")" ∷ l) ≡ steps (at 0 0 st) l
unfolding steps step more expand spell_expression
expression-run (Single a) st l v = operand-run (byte "X") (bytes "R") expression-operates st l (byte ")") (λ a. refl) a v
expression-run (Binary a o b) st l v =
    ap (steps (at 0 0 (byte "X" ∷ st))) (binary-text a o b (byte ")" ∷ l))
    ∙ operand-run (byte "X") (bytes "R") expression-operates st (spell_operator o ∷ 32 ∷ (spell_operand b ++ byte ")" ∷ l)) 32 (λ a. refl) a v.0
    ∙ operator-run o st (spell_operand b ++ byte ")" ∷ l)
    ∙ operand-run (byte "A") [] operand-operates (byte ")" ∷ st) l (byte ")") (λ a. refl) b v.1

pub assign-text : (x : ℕ) (e : Expression) (rest : List ℕ) → spell (Assign x e) ++ rest ≡ spell_variable x ++ (becomes_word ++ (spell_expression e ++ rest))
unfolding spell
assign-text x e rest = simp append_assoc

pub branch-text : (x n m : ℕ) (rest : List ℕ) → spell (Branch x n m) ++ rest ≡ if_word ++ (spell_variable x ++ (goto_word ++ (digits n ++ (else_word ++ (digits m ++ rest)))))
unfolding spell
branch-text x n m rest = simp append_assoc

assigned-run : (st l : List ℕ) (x : ℕ) → ValidVariable x → steps (at 0 0 (byte "I" ∷ st)) (digits x ++ 32 ∷ l) ≡ steps (at 0 0 (bytes " := X" ++ st)) (32 ∷ l)
unfolding bound_of
assigned-run st l x v = number-run (byte "I") (bytes " := X") st assigned-holds x 32 l v (λ a. refl)

statement-run : (s : Statement) (st l : List ℕ) → Valid s → steps (at 0 0 (byte "S" ∷ st)) (spell s ++ byte ")" ∷ l) ≡ steps (at 0 0 st) l
unfolding steps step more expand spell spell_variable
statement-run (Read x) st l v = variable-run (byte ")" ∷ st) l (byte ")") (λ a. refl) x v
statement-run (Write x) st l v = variable-run (byte ")" ∷ st) l (byte ")") (λ a. refl) x v
statement-run Skip st l v = refl
statement-run (Assign x e) st l v =
    ap (steps (at 0 0 (byte "S" ∷ st))) (assign-text x e (byte ")" ∷ l))
    ∙ assigned-run st (bytes ":= " ++ (spell_expression e ++ byte ")" ∷ l)) x v.0
    ∙ expression-run e st l v.1
statement-run (Branch x n m) st l v =
    let t : List ℕ = digits m ++ byte ")" ∷ l in
    ap (steps (at 0 0 (byte "S" ∷ st))) (branch-text x n m (byte ")" ∷ l))
    ∙ variable-run (bytes " goto N else N)" ++ st) (bytes "goto " ++ (digits n ++ (else_word ++ t))) 32 (λ a. refl) x v.0
    ∙ target_run (bytes " else N)" ++ st) (bytes "else " ++ t) 32 (λ a. refl) n v.1
    ∙ target_run (bytes ")" ++ st) l (byte ")") (λ a. refl) m v.2

-- something within an atom's brackets, grouped as it is read
enclosed-text : (w t u : List ℕ) → (w ++ (t ++ bytes ")")) ++ u ≡ w ++ (t ++ byte ")" ∷ u)
enclosed-text w t u = simp append_assoc

atom-run : (a : Atom) (st l : List ℕ) → ValidAtom a → steps (at 0 0 (byte "C" ∷ st)) (spell_atom a ++ l) ≡ steps (at 0 0 st) l
unfolding steps step more expand spell_atom
atom-run atom.True st l v = refl
atom-run atom.False st l v = refl
atom-run atom.Entry st l v = refl
atom-run atom.Exit st l v = refl
atom-run (atom.Node n) st l v = ap (steps (at 0 0 (byte "C" ∷ st))) (enclosed-text (bytes "node(") (digits n) l) ∙ target_run (byte ")" ∷ st) l (byte ")") (λ a. refl) n v
atom-run (atom.Stmt i) st l v = ap (steps (at 0 0 (byte "C" ∷ st))) (enclosed-text (bytes "stmt(") (spell i) l) ∙ statement-run i st l v
atom-run (atom.Def x) st l v = ap (steps (at 0 0 (byte "C" ∷ st))) (enclosed-text (bytes "def(") (spell_variable x) l) ∙ variable-run (byte ")" ∷ st) l (byte ")") (λ a. refl) x v
atom-run (atom.Use x) st l v = ap (steps (at 0 0 (byte "C" ∷ st))) (enclosed-text (bytes "use(") (spell_variable x) l) ∙ variable-run (byte ")" ∷ st) l (byte ")") (λ a. refl) x v
atom-run (atom.Trans e) st l v = ap (steps (at 0 0 (byte "C" ∷ st))) (enclosed-text (bytes "trans(") (spell_expression e) l) ∙ expression-run e st l v

-- operators
prefix-run : (o : Unary) (st l : List ℕ) → steps (at 0 0 (byte "C" ∷ st)) (prefix o ++ l) ≡ steps (at 0 0 (byte "C" ∷ st)) l
unfolding steps step more expand
prefix-run negation st l = refl
prefix-run (Unary.path E forward next) st l = refl
prefix-run (Unary.path E forward finally) st l = refl
prefix-run (Unary.path E forward globally) st l = refl
prefix-run (Unary.path E backward next) st l = refl
prefix-run (Unary.path E backward finally) st l = refl
prefix-run (Unary.path E backward globally) st l = refl
prefix-run (Unary.path A forward next) st l = refl
prefix-run (Unary.path A forward finally) st l = refl
prefix-run (Unary.path A forward globally) st l = refl
prefix-run (Unary.path A backward next) st l = refl
prefix-run (Unary.path A backward finally) st l = refl
prefix-run (Unary.path A backward globally) st l = refl

-- the item for what stands between the two conditions of an operator
abbrev between : condition.Binary → ℕ
between conjunction = byte "J"
between disjunction = byte "J"
between (condition.Binary.path k d o) = byte "K"

opening-run : (o : condition.Binary) (st l : List ℕ) → steps (at 0 0 (byte "C" ∷ st)) (opening o ++ l) ≡ steps (at 0 0 (byte "C" ∷ between o ∷ byte "C" ∷ (closing o ++ st))) l
unfolding steps step more expand
opening-run conjunction st l = refl
opening-run disjunction st l = refl
opening-run (condition.Binary.path E d o) st l = refl
opening-run (condition.Binary.path A d o) st l = refl

middle-run : (o : condition.Binary) (st l : List ℕ) → steps (at 0 0 (between o ∷ st)) (middle o ++ l) ≡ steps (at 0 0 st) l
unfolding steps step more expand
middle-run conjunction st l = refl
middle-run disjunction st l = refl
middle-run (condition.Binary.path k forward until) st l = refl
middle-run (condition.Binary.path k forward weak) st l = refl
middle-run (condition.Binary.path k backward until) st l = refl
middle-run (condition.Binary.path k backward weak) st l = refl

closing-run : (o : condition.Binary) (st l : List ℕ) → steps (at 0 0 (closing o ++ st)) (closing o ++ l) ≡ steps (at 0 0 st) l
unfolding steps step more expand
closing-run conjunction st l = refl
closing-run disjunction st l = refl
closing-run (condition.Binary.path k d o) st l = refl

condition-run : (c : Condition) (st l : List ℕ) → ValidCondition c → steps (at 0 0 (byte "C" ∷ st)) (spell_condition c ++ l) ≡ steps (at 0 0 st) l
unfolding spell_condition
condition-run (condition.atom a) st l v = atom-run a st l v
condition-run (unary o p) st l v =
    ap (steps (at 0 0 (byte "C" ∷ st))) (readers.unary-text o p l) ∙ prefix-run o st (spell_condition p ++ l) ∙ condition-run p st l v
condition-run (binary o p q) st l v =
    let r : List ℕ = closing o ++ l in
    ap (steps (at 0 0 (byte "C" ∷ st))) (readers.binary-text o p q l)
    ∙ opening-run o st (spell_condition p ++ (middle o ++ (spell_condition q ++ r)))
    ∙ condition-run p (between o ∷ byte "C" ∷ (closing o ++ st)) (middle o ++ (spell_condition q ++ r)) v.0
    ∙ middle-run o (byte "C" ∷ (closing o ++ st)) (spell_condition q ++ r)
    ∙ condition-run q (closing o ++ st) r v.1
    ∙ closing-run o st l

-- a spelling is read to its end, and nothing is expected there
pub spelling-read : (c : Condition) → ValidCondition c → steps start (spell_condition c) ≡ at 0 0 []
unfolding steps
spelling-read c v = ap (steps start) (sym (append-nil (spell_condition c))) ∙ condition-run c [] [] v

pub spells-read : {t : List ℕ} {c : Condition} → Spells t c → steps start t ≡ at 0 0 []
spells-read {c = c} s = rw s.spelling (spelling-read c s.valid)
