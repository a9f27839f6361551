-- Reading undoes spelling, and the other way round: statements and lines.
use mathlib.Core.Path.{◌≡◌, refl, ap, sym, ◌∙◌}
use mathlib.Core.List.{List, [], ◌∷◌, ◌++◌, append_assoc}
use Prim.Native.Nat.{ℕ, ◌+◌, ◌≤◌, ◌<◌}
use native.Mathlib.Omega.{arith}
use lib.Dec.{eqb}
use borrow.Author.Tests.{eqb-true, ne_eqb}
use Rattle.language.specs.declared.Operand.{Operand}
use Rattle.language.specs.declared.Operand.TheVariants.{Variable, Constant}
use Rattle.language.specs.declared.Operator.{Operator}
use Rattle.language.specs.declared.Operator.TheVariants.{Add, Subtract, Multiply, Less, Equal, Divide}
use Rattle.language.specs.declared.Expression.{Expression}
use Rattle.language.specs.declared.Expression.TheVariants.{Single, Binary}
use Rattle.language.specs.declared.Statement.{Statement}
use Rattle.language.specs.declared.Statement.TheVariants.{Read, Write, Assign, Branch, Skip}
use Rattle.language.specs.Spelling.{digits, spell_variable, spell_operand, spell_operator, spell_expression, spell, ValidOperand, ValidExpression, Valid, read_word, write_word, becomes_word, if_word, goto_word, else_word, skip_word}
use Rattle.tokens.specs.Parsing.{Parsed, found, misspelled, parsed, parsed_end, after, where?, either, parse_word, digit_of, parse_number, parse_constant, parse_variable}
use Rattle.statement_reader.specs.Parsing.{parse_operand, parse_operator, parse_expression, parse_read, parse_write, parse_skip, parse_assign, parse_branch, parse_assign_or_branch, by_first, parse_statement, parse_line}
use lib.ListN.{length, get_or, drop}
use Rattle.std.specs.Prelude.{Option, Some, None}
use Rattle.statement_reader.specs.Reading.{LineRead}
use Rattle.tokens.proofs.Numbers.{NoDigit, number-sound, number-complete, variable-sound, variable-complete}
use Rattle.tokens.proofs.Constants.{constant-sound, constant-complete}
use Rattle.tokens.proofs.Steps.{at-end, at_byte}
use Rattle.tokens.proofs.Parse.{after-inv, after_or-inv, where-inv, either-inv, pick_inv, skip-sound}

-- what is spelled is read
pub operand-complete : (a : Operand) (rest : List ℕ) → ValidOperand a → NoDigit rest → parse_operand (spell_operand a ++ rest) ≡ found a rest
unfolding parse_operand spell_operand spell_variable parse_constant parse_number parse_word digit_of
operand-complete (Variable x) rest p h = rw (variable-complete x rest p h)
operand-complete (Constant n) rest p h = rw (constant-complete n rest p h)

operator-complete : (o : Operator) (l : List ℕ) → parse_operator (spell_operator o ∷ l) ≡ found o l
unfolding parse_operator
operator-complete Add l = refl
operator-complete Subtract l = refl
operator-complete Multiply l = refl
operator-complete Less l = refl
operator-complete Equal l = refl
operator-complete Divide l = refl

-- the text of a binary expression and what follows it, grouped as it is read
binary-text : (a : Operand) (o : Operator) (b : Operand) (rest : List ℕ) → spell_expression (Binary a o b) ++ rest ≡ spell_operand a ++ (32 ∷ spell_operator o ∷ 32 ∷ (spell_operand b ++ rest))
unfolding spell_expression
binary-text a o b rest = simp append_assoc

pub expression-complete : (e : Expression) (rest : List ℕ) → ValidExpression e → NoDigit rest → parse_word (32 ∷ []) rest ≡ misspelled
    → parse_expression (spell_expression e ++ rest) ≡ found e rest
unfolding parse_expression spell_expression parse_word digit_of
expression-complete (Single a) rest v h n = rw (operand-complete a rest v h, n)
expression-complete (Binary a o b) rest v h n =
    let t = 32 ∷ spell_operand b ++ rest in
    ap parse_expression (binary-text a o b rest) ∙ rw (operand-complete a (32 ∷ spell_operator o ∷ t) v.0 refl, operator-complete o t, operand-complete b rest v.1 h)

-- the text of a line and what follows it, grouped as it is read
assign-text : (x : ℕ) (e : Expression) (rest : List ℕ) → spell (Assign x e) ++ rest ≡ spell_variable x ++ (becomes_word ++ (spell_expression e ++ rest))
unfolding spell
assign-text x e rest = simp append_assoc

branch-text : (x n m : ℕ) (rest : List ℕ) → spell (Branch x n m) ++ rest ≡ if_word ++ (spell_variable x ++ (goto_word ++ (digits n ++ (else_word ++ (digits m ++ rest)))))
unfolding spell
branch-text x n m rest = simp append_assoc

assign-complete : (x : ℕ) (e : Expression) (rest : List ℕ) → Valid (Assign x e) → NoDigit rest → parse_word (32 ∷ []) rest ≡ misspelled
    → parse_assign (spell_variable x ++ (becomes_word ++ (spell_expression e ++ rest))) ≡ found (Assign x e) rest
unfolding parse_assign parse_word digit_of
assign-complete x e rest v h n =
    rw (variable-complete x (becomes_word ++ (spell_expression e ++ rest)) v.0 refl, expression-complete e rest v.1 h n)

-- an `if` is no assignment
assign-if : (l : List ℕ) → parse_assign (if_word ++ l) ≡ misspelled
unfolding parse_assign parse_variable parse_word parse_number digit_of
assign-if l = refl

branch-complete : (x n m : ℕ) (rest : List ℕ) → Valid (Branch x n m) → NoDigit rest
    → parse_branch (if_word ++ (spell_variable x ++ (goto_word ++ (digits n ++ (else_word ++ (digits m ++ rest)))))) ≡ found (Branch x n m) rest
unfolding parse_branch parse_word digit_of
branch-complete x n m rest v h =
    let t = else_word ++ (digits m ++ rest) in
    rw (variable-complete x (goto_word ++ (digits n ++ t)) v.0 refl, number-complete n t v.1 refl, number-complete m rest v.2 h)

pub statement-complete : (s : Statement) (rest : List ℕ) → Valid s → NoDigit rest → parse_word (32 ∷ []) rest ≡ misspelled → parse_statement (spell s ++ rest) ≡ found s rest
unfolding parse_statement by_first parse_assign_or_branch parse_read parse_write parse_skip spell spell_variable parse_word digit_of
statement-complete (Read x) rest v h n = rw (variable-complete x rest v h)
statement-complete (Write x) rest v h n = rw (variable-complete x rest v h)
statement-complete (Assign x e) rest v h n = ap parse_statement (assign-text x e rest) ∙ rw (assign-complete x e rest v h n)
statement-complete (Branch x n m) rest v h k =
    let t = goto_word ++ (digits n ++ (else_word ++ (digits m ++ rest))) in
    ap parse_statement (branch-text x n m rest) ∙ rw (assign-if (spell_variable x ++ t), branch-complete x n m rest v h)
statement-complete Skip rest v h n = refl

pub line-complete : (s : Statement) (rest : List ℕ) → Valid s → parse_line (spell s ++ 10 ∷ rest) ≡ found s rest
unfolding parse_line parse_word digit_of
line-complete s rest v = rw (statement-complete s (10 ∷ rest) v refl refl)

-- lines that begin a text in two ways are one line
pub line-unique : (s r : Statement) (t u : List ℕ) → Valid s → Valid r → spell s ++ 10 ∷ t ≡ spell r ++ 10 ∷ u → (s ≡ r) × (t ≡ u)
line-unique s r t u v w e =
    let a = line-complete s t v in
    let b = line-complete r u w in
    (cc, cc)

-- what is read is what is spelled
pub operand_sound : (l : List ℕ) (a : Operand) (u : List ℕ) → parse_operand l ≡ found a u → (l ≡ spell_operand a ++ u) × ValidOperand a
unfolding parse_operand spell_operand
operand_sound l a u e =
    either-inv (after (parse_constant l) (λ n t. found (Constant n) t)) (after (parse_variable l) (λ x t. found (Variable x) t)) e
    (λ f. after-inv (parse_constant l) _ f λ n t e₁ f₁.
    let p : Constant n ≡ a = cc in
    let q : t ≡ u = cc in
    rw (← p, ← q) (constant-sound l n t e₁))
    (λ f. after-inv (parse_variable l) _ f λ x t e₁ f₁.
    let p : Variable x ≡ a = cc in
    let q : t ≡ u = cc in
    rw (← p, ← q) (variable-sound l x t e₁))

operator-sound : (l : List ℕ) (o : Operator) (u : List ℕ) → parse_operator l ≡ found o u → l ≡ spell_operator o ∷ u
unfolding parse_operator
operator-sound [] o u e = let z : ◌≡◌ {A = ℕ} 0 1 = cc in absurd (omega arith)
operator-sound (c ∷ l) o u e =
    either-inv _ _ e (is Add 43 refl)
    (λ e₁. either-inv _ _ e₁ (is Subtract 45 refl)
    (λ e₂. either-inv _ _ e₂ (is Multiply 42 refl)
    (λ e₃. either-inv _ _ e₃ (is Less 60 refl)
    (λ e₄. either-inv _ _ e₄ (is Equal 61 refl) (is Divide 47 refl)))))
  where
    is : (p : Operator) (k : ℕ) → spell_operator p ≡ k → where? (eqb c k) (found p l) ≡ found o u → c ∷ l ≡ spell_operator o ∷ u
    is p k h w = where-inv (eqb c k) (found p l) w λ t f.
        let a : p ≡ o = cc in
        let b : l ≡ u = cc in
        rw (← a, ← b, h, eqb-true c k t)

pub expression-sound : (l : List ℕ) (e : Expression) (u : List ℕ) → parse_expression l ≡ found e u → (l ≡ spell_expression e ++ u) × ValidExpression e
unfolding parse_expression spell_expression
expression-sound l e u h =
    after-inv (parse_operand l) _ h λ a t e₁ f₁.
    let s₁ = operand_sound l a t e₁ in
    after_or-inv (parse_word (32 ∷ []) t) _ (found (Single a) t) f₁
    (λ _ v e₂ f₂.
    after-inv (parse_operator v) _ f₂ λ o w e₃ f₃.
    after-inv (parse_word (32 ∷ []) w) _ f₃ λ _ x e₄ f₄.
    after-inv (parse_operand x) _ f₄ λ b y e₅ f₅.
    let p : Binary a o b ≡ e = cc in
    let q : y ≡ u = cc in
    let s₅ = operand_sound x b y e₅ in
    rw (← p, ← q) (rw (binary-text a o b y) (s₁.0 ∙ ap (λ (m : List ℕ). spell_operand a ++ m) (skip-sound (32 ∷ []) t e₂ ∙ rw (operator-sound v o w e₃, skip-sound (32 ∷ []) w e₄, s₅.0))), (s₁.1, s₅.1)))
    (λ f₂.
    let p : Single a ≡ e = cc in
    let q : t ≡ u = cc in
    rw (← p, ← q) s₁)

-- l spells s before u, and s is valid
abbrev pub Spelled : List ℕ → Statement → List ℕ → Type 0
Spelled l s u = (l ≡ spell s ++ u) × Valid s

read-sound : (l : List ℕ) (s : Statement) (u : List ℕ) → parse_read l ≡ found s u → Spelled l s u
unfolding parse_read spell
read-sound l s u h =
    after-inv (parse_word read_word l) _ h λ _ t e₁ f₁.
    after-inv (parse_variable t) _ f₁ λ x v e₂ f₂.
    let p : Read x ≡ s = cc in
    let q : v ≡ u = cc in
    let i = variable-sound t x v e₂ in
    rw (← p, ← q) (rw (skip-sound read_word l e₁, i.0), i.1)

write-sound : (l : List ℕ) (s : Statement) (u : List ℕ) → parse_write l ≡ found s u → Spelled l s u
unfolding parse_write spell
write-sound l s u h =
    after-inv (parse_word write_word l) _ h λ _ t e₁ f₁.
    after-inv (parse_variable t) _ f₁ λ x v e₂ f₂.
    let p : Write x ≡ s = cc in
    let q : v ≡ u = cc in
    let i = variable-sound t x v e₂ in
    rw (← p, ← q) (rw (skip-sound write_word l e₁, i.0), i.1)

idle-sound : (l : List ℕ) (s : Statement) (u : List ℕ) → parse_skip l ≡ found s u → Spelled l s u
unfolding parse_skip spell
idle-sound l s u h =
    after-inv (parse_word skip_word l) _ h λ _ t e₁ f₁.
    let p : Skip ≡ s = cc in
    let q : t ≡ u = cc in
    rw (← p, ← q) (rw (skip-sound skip_word l e₁), tt)

assign-sound : (l : List ℕ) (s : Statement) (u : List ℕ) → parse_assign l ≡ found s u → Spelled l s u
unfolding parse_assign
assign-sound l s u h =
    after-inv (parse_variable l) _ h λ x t e₁ f₁.
    after-inv (parse_word becomes_word t) _ f₁ λ _ v e₂ f₂.
    after-inv (parse_expression v) _ f₂ λ e w e₃ f₃.
    let p : Assign x e ≡ s = cc in
    let q : w ≡ u = cc in
    let i = variable-sound l x t e₁ in
    let j = expression-sound v e w e₃ in
    let g : l ≡ spell_variable x ++ (becomes_word ++ (spell_expression e ++ w)) = i.0 ∙ rw (skip-sound becomes_word t e₂, j.0) in
    rw (← p, ← q) (g ∙ sym (assign-text x e w), (i.1, j.1))

branch-sound : (l : List ℕ) (s : Statement) (u : List ℕ) → parse_branch l ≡ found s u → Spelled l s u
unfolding parse_branch
branch-sound l s u h =
    after-inv (parse_word if_word l) _ h λ _ a e₁ f₁.
    after-inv (parse_variable a) _ f₁ λ x b e₂ f₂.
    after-inv (parse_word goto_word b) _ f₂ λ _ c e₃ f₃.
    after-inv (parse_number c) _ f₃ λ n d e₄ f₄.
    after-inv (parse_word else_word d) _ f₄ λ _ g e₅ f₅.
    after-inv (parse_number g) _ f₅ λ m w e₆ f₆.
    let p : Branch x n m ≡ s = cc in
    let q : w ≡ u = cc in
    let i = variable-sound a x b e₂ in
    let j = number-sound c n d e₄ in
    let k = number-sound g m w e₆ in
    let t : l ≡ if_word ++ (spell_variable x ++ (goto_word ++ (digits n ++ (else_word ++ (digits m ++ w))))) = rw (skip-sound if_word l e₁, i.0, skip-sound goto_word b e₃, j.0, skip-sound else_word d e₅, k.0) in
    rw (← p, ← q) (t ∙ sym (branch-text x n m w), (i.1, j.1, k.1))

pub statement-sound : (l : List ℕ) (s : Statement) (u : List ℕ) → parse_statement l ≡ found s u → Spelled l s u
unfolding parse_statement by_first parse_assign_or_branch
statement-sound [] s u h = let z : ◌≡◌ {A = ℕ} 0 1 = cc in absurd (omega arith)
statement-sound (c ∷ l) s u h =
    pick_inv (eqb c 114) _ _ h (read-sound (c ∷ l) s u) λ h₁.
    pick_inv (eqb c 119) _ _ h₁ (write-sound (c ∷ l) s u) λ h₂.
    pick_inv (eqb c 115) _ _ h₂ (idle-sound (c ∷ l) s u) λ h₃.
    where-inv (eqb c 105) _ h₃ λ _ h₄.
    either-inv (parse_assign (c ∷ l)) (parse_branch (c ∷ l)) h₄ (assign-sound (c ∷ l) s u) (branch-sound (c ∷ l) s u)

pub line-sound : (l : List ℕ) (s : Statement) (u : List ℕ) → parse_line l ≡ found s u → (l ≡ spell s ++ 10 ∷ u) × Valid s
unfolding parse_line
line-sound l s u h =
    after-inv (parse_statement l) _ h λ r t e₁ f₁.
    after-inv (parse_word (10 ∷ []) t) _ f₁ λ _ v e₂ f₂.
    let p : r ≡ s = cc in
    let q : v ≡ u = cc in
    let i = statement-sound l r t e₁ in
    rw (← p, ← q) (i.0 ∙ rw (skip-sound (10 ∷ []) t e₂), i.1)

-- the answer of `line` means what it should
pub line-right : (s : List ℕ) (at : ℕ) (r : Option (Statement × ℕ)) → parsed_end r ≤ length s → parsed s r ≡ parse_line (drop at s) → LineRead s at r
line-right s at (Some r) w h = let l = line-sound (drop at s) r.0 (drop r.1 s) (sym h) in record { stands = l.0; within = w; valid = l.1 }
line-right s at None w h = λ e rest v t. let z : ◌≡◌ {A = ℕ} 0 1 = cc (line-complete e rest v) in omega arith

-- the reader goes by the first byte
pub statement-first : (s : List ℕ) (k : ℕ) → k < length s → parse_statement (drop k s) ≡ by_first (get_or s k 0) (drop k s)
unfolding parse_statement
statement-first s k h = rw (at_byte s k h)

-- an operand too: a variable begins with `i`, and no constant does
either-none : {A : Type 0} (p : Parsed A) → either p misspelled ≡ p
either-none (found a t) = refl
either-none misspelled = refl

module _ (s : List ℕ) (k : ℕ) where
  pub operand-none : length s ≤ k → parse_operand (drop k s) ≡ misspelled
  unfolding parse_operand parse_constant parse_variable parse_number parse_word
  operand-none h = rw (at-end s k h)

  module _ (h : k < length s) where
    pub operand-variable : get_or s k 0 ≡ 105 → parse_operand (drop k s) ≡ after (parse_variable (drop k s)) λ x t. found (Variable x) t
    unfolding parse_operand parse_constant parse_number parse_word digit_of
    operand-variable e = rw (at_byte s k h, e)

    pub operand-constant : (get_or s k 0 ≡ 105 → ⊥) → parse_operand (drop k s) ≡ after (parse_constant (drop k s)) λ n t. found (Constant n) t
    unfolding parse_operand parse_variable parse_word
    operand-constant d = rw (at_byte s k h, ne_eqb _ 105 d) (either-none (after (parse_constant (get_or s k 0 ∷ drop (k + 1) s)) λ n t. found (Constant n) t))

-- a byte that begins no operator, and one that begins no statement
pub operator-other : (c : ℕ) (l : List ℕ) → (c ≡ 43 → ⊥) → (c ≡ 45 → ⊥) → (c ≡ 42 → ⊥) → (c ≡ 60 → ⊥) → (c ≡ 61 → ⊥) → (c ≡ 47 → ⊥) → misspelled ≡ parse_operator (c ∷ l)
unfolding parse_operator
operator-other c l a b d e f g = rw (ne_eqb c 43 a, ne_eqb c 45 b, ne_eqb c 42 d, ne_eqb c 60 e, ne_eqb c 61 f, ne_eqb c 47 g)

pub first-other : (c : ℕ) (l : List ℕ) → (c ≡ 114 → ⊥) → (c ≡ 119 → ⊥) → (c ≡ 115 → ⊥) → (c ≡ 105 → ⊥) → misspelled ≡ by_first c l
unfolding by_first
first-other c l a b d e = rw (ne_eqb c 114 a, ne_eqb c 119 b, ne_eqb c 115 d, ne_eqb c 105 e)
