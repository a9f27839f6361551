-- Reading undoes spelling, and the other way round: marks and their lines. Assumes nothing.
use mathlib.Core.Path.{◌≡◌, refl, ap, sym, ◌∙◌}
use mathlib.Core.Bool.{true, false}
use mathlib.Core.List.{List, [], ◌∷◌, ◌++◌, append_assoc}
use Prim.Native.Nat.{ℕ, ◌+◌, ◌-◌, ◌≤◌, ◌<◌}
use native.Mathlib.Omega.{arith}
use lib.Dec.{eqb}
use lib.ListN.{length, get_or, drop, length-drop}
use Rattle.lines.proofs.Texts.{Unambiguous}
use Rattle.language.specs.declared.Operand.{Operand}
use Rattle.language.specs.declared.Expression.{Expression}
use Rattle.language.specs.Spelling.{digits, ValidStatementNumber, spell_variable, ValidVariable, spell_operand, ValidOperand, spell_expression, ValidExpression}
use Rattle.tokens.specs.Parsing.{Parsed, found, misspelled, parse_word, digit_of, parse_number, parse_variable}
use Rattle.statement_reader.specs.Parsing.{parse_operand, parse_expression}
use Rattle.tokens.proofs.Numbers.{number-sound, number-complete, variable-sound, variable-complete}
use Rattle.tokens.proofs.Steps.{at_byte}
use Rattle.tokens.proofs.Parse.{after-inv, pick_inv, skip-sound}
use Rattle.statement_reader.proofs.Lines.{operand_sound, operand-complete, expression-sound, expression-complete}
use Rattle.marks.specs.declared.Mark.{Mark}
use Rattle.marks.specs.declared.Mark.TheVariants.{Rm, Rpl, Cse}
use Rattle.marks.specs.Marks.{mark_word, rm_word, rpl_word, cse_word, comma_word, spell_mark, ValidMark}
use Rattle.marks.specs.Reading.{MarkLineRead}
use Rattle.marks.specs.Parsing.{parse_front, end_word, parse_tail, parse_computed, parse_rpl, by_second, parse_kind, parse_mark_line}
use Rattle.tokens.specs.Parsing.{parsed, parsed_end}
use Rattle.std.specs.Prelude.{Option, Some, None}

-- a mark's line after its `mark(`, with the word w and with y for E or A, and what follows it, grouped as it is read
abbrev tail : List ℕ → ℕ → List ℕ → List ℕ → List ℕ
tail w x y rest = w ++ (spell_variable x ++ (comma_word ++ (y ++ 41 ∷ 10 ∷ rest)))

rm-text : (n x : ℕ) (e : Expression) (rest : List ℕ) → spell_mark (Rm n x e) ++ 10 ∷ rest ≡ digits n ++ (mark_word ++ tail rm_word x (spell_expression e) rest)
unfolding spell_mark
rm-text n x e rest = simp append_assoc

rpl-text : (n x : ℕ) (a : Operand) (rest : List ℕ) → spell_mark (Rpl n x a) ++ 10 ∷ rest ≡ digits n ++ (mark_word ++ tail rpl_word x (spell_operand a) rest)
unfolding spell_mark
rpl-text n x a rest = simp append_assoc

cse-text : (n x : ℕ) (e : Expression) (rest : List ℕ) → spell_mark (Cse n x e) ++ 10 ∷ rest ≡ digits n ++ (mark_word ++ tail cse_word x (spell_expression e) rest)
unfolding spell_mark
cse-text n x e rest = simp append_assoc

-- what is spelled is read
rm-complete : (n x : ℕ) (e : Expression) (rest : List ℕ) → ValidMark (Rm n x e) → parse_computed rm_word false n (tail rm_word x (spell_expression e) rest) ≡ found (Rm n x e) rest
unfolding parse_tail parse_front parse_word digit_of
rm-complete n x e rest v =
    rw (variable-complete x (comma_word ++ (spell_expression e ++ 41 ∷ 10 ∷ rest)) v.1 refl, expression-complete e (41 ∷ 10 ∷ rest) v.2 refl refl)

rpl-complete : (n x : ℕ) (a : Operand) (rest : List ℕ) → ValidMark (Rpl n x a) → parse_rpl n (tail rpl_word x (spell_operand a) rest) ≡ found (Rpl n x a) rest
unfolding parse_tail parse_front parse_word digit_of
rpl-complete n x a rest v =
    rw (variable-complete x (comma_word ++ (spell_operand a ++ 41 ∷ 10 ∷ rest)) v.1 refl, operand-complete a (41 ∷ 10 ∷ rest) v.2 refl)

cse-complete : (n x : ℕ) (e : Expression) (rest : List ℕ) → ValidMark (Cse n x e) → parse_computed cse_word true n (tail cse_word x (spell_expression e) rest) ≡ found (Cse n x e) rest
unfolding parse_tail parse_front parse_word digit_of
cse-complete n x e rest v =
    rw (variable-complete x (comma_word ++ (spell_expression e ++ 41 ∷ 10 ∷ rest)) v.1 refl, expression-complete e (41 ∷ 10 ∷ rest) v.2 refl refl)

pub line-complete : (m : Mark) (rest : List ℕ) → ValidMark m → parse_mark_line (spell_mark m ++ 10 ∷ rest) ≡ found m rest
unfolding parse_mark_line parse_kind parse_word digit_of
line-complete (Rm n x e) rest v =
    ap parse_mark_line (rm-text n x e rest) ∙ rw (number-complete n (mark_word ++ tail rm_word x (spell_expression e) rest) v.0 refl, rm-complete n x e rest v)
line-complete (Rpl n x a) rest v =
    ap parse_mark_line (rpl-text n x a rest) ∙ rw (number-complete n (mark_word ++ tail rpl_word x (spell_operand a) rest) v.0 refl, rpl-complete n x a rest v)
line-complete (Cse n x e) rest v =
    ap parse_mark_line (cse-text n x e rest) ∙ rw (number-complete n (mark_word ++ tail cse_word x (spell_expression e) rest) v.0 refl, cse-complete n x e rest v)

-- lines that begin a text in two ways are one mark's line
mark-unique : (m o : Mark) (t u : List ℕ) → ValidMark m → ValidMark o → spell_mark m ++ 10 ∷ t ≡ spell_mark o ++ 10 ∷ u → (m ≡ o) × (t ≡ u)
mark-unique m o t u v w e =
    let a = line-complete m t v in
    let b = line-complete o u w in
    (cc, cc)

pub marks-unambiguous : Unambiguous spell_mark ValidMark
marks-unambiguous = record { same = mark-unique }

-- what is read is what is spelled: past the number and `mark(`, with a sound reader of E or A; the last argument goes on with it
tail-sound : {A C : Type 0} (w : List ℕ) (p : List ℕ → Parsed A) (spelt : A → List ℕ) (Good : A → Type 0)
    → ((l : List ℕ) (a : A) (u : List ℕ) → p l ≡ found a u → (l ≡ spelt a ++ u) × Good a)
    → (f : ℕ → A → Mark) (l : List ℕ) {m : Mark} {u : List ℕ} → parse_tail w p f l ≡ found m u
    → ((x : ℕ) (a : A) → f x a ≡ m → l ≡ tail w x (spelt a) u → ValidVariable x → Good a → C) → C
unfolding parse_tail parse_front
tail-sound w p spelt Good sound f l h k =
    after-inv (parse_front w l) _ h λ x t e₁ f₁.
    after-inv (parse_word w l) _ e₁ λ _ b e₂ f₂.
    after-inv (parse_variable b) _ f₂ λ y c e₃ f₃.
    after-inv (parse_word comma_word c) _ f₃ λ _ d e₄ f₄.
    after-inv (p t) _ f₁ λ a g e₅ f₅.
    after-inv (parse_word end_word g) _ f₅ λ _ v e₆ f₆.
    let q : y ≡ x = cc in
    let r : d ≡ t = cc in
    let i = variable-sound b y c e₃ in
    let j = sound t a g e₅ in
    let z : l ≡ tail w x (spelt a) v = rw (skip-sound w l e₂, i.0, skip-sound comma_word c e₄, r, j.0, skip-sound end_word g e₆, q) in
    k x a (cc) (z ∙ ap (tail w x (spelt a)) (cc)) (rw (← q) i.1) j.1

kind-sound : {l : List ℕ} (m : Mark) (u : List ℕ) (n : ℕ) (v : List ℕ) → l ≡ digits n ++ (mark_word ++ v) → ValidStatementNumber n
    → parse_kind n v ≡ found m u → (l ≡ spell_mark m ++ 10 ∷ u) × ValidMark m
unfolding parse_kind
kind-sound m u n [] g i h = let z : ◌≡◌ {A = ℕ} 0 1 = cc in absurd (omega arith)
kind-sound m u n (a ∷ []) g i h = let z : ◌≡◌ {A = ℕ} 0 1 = cc in absurd (omega arith)
kind-sound m u n (a ∷ c ∷ v) g i h =
    pick_inv (eqb c 109) _ _ h
    (λ f. tail-sound rm_word parse_expression spell_expression ValidExpression expression-sound (Rm n) (a ∷ c ∷ v) f λ x e p s b d. rw (← p) (g ∙ rw (s, rm-text n x e u), (i, b, d)))
    λ h₁. pick_inv (eqb c 112) _ _ h₁
    (λ f. tail-sound rpl_word parse_operand spell_operand ValidOperand operand_sound (Rpl n) (a ∷ c ∷ v) f λ x o p s b d. rw (← p) (g ∙ rw (s, rpl-text n x o u), (i, b, d)))
    (λ f. tail-sound cse_word parse_expression spell_expression ValidExpression expression-sound (Cse n) (a ∷ c ∷ v) f λ x e p s b d. rw (← p) (g ∙ rw (s, cse-text n x e u), (i, b, d)))

pub line-sound : (l : List ℕ) (m : Mark) (u : List ℕ) → parse_mark_line l ≡ found m u → (l ≡ spell_mark m ++ 10 ∷ u) × ValidMark m
unfolding parse_mark_line
line-sound l m u h =
    after-inv (parse_number l) _ h λ n t e₁ f₁.
    after-inv (parse_word mark_word t) _ f₁ λ _ v e₂ f₂.
    let i = number-sound l n t e₁ in
    kind-sound m u n v (i.0 ∙ rw (skip-sound mark_word t e₂)) i.1 f₂

-- the reader goes by the second byte
short : (n : ℕ) (l : List ℕ) → length l < 2 → parse_kind n l ≡ misspelled
unfolding parse_kind
short n [] h = refl
short n (a ∷ []) h = refl
short n (a ∷ c ∷ l) h = absurd (omega arith)

module _ (n : ℕ) (s : List ℕ) (k : ℕ) where
  pub kind-short : length s - k < 2 → parse_kind n (drop k s) ≡ misspelled
  kind-short h = short n (drop k s) (rw (length-drop k s) h)

  pub kind-second : k + 1 < length s → parse_kind n (drop k s) ≡ by_second (get_or s (k + 1) 0) n (drop k s)
  unfolding parse_kind
  kind-second h = rw (at_byte s k (omega arith), at_byte s (k + 1) h)

-- the answer of `mark` means what it should
pub line-right : (s : List ℕ) (at : ℕ) (r : Option (Mark × ℕ)) → parsed_end r ≤ length s → parsed s r ≡ parse_mark_line (drop at s) → MarkLineRead s at r
line-right s at (Some r) w h = let i = line-sound (drop at s) r.0 (drop r.1 s) (sym h) in record { stands = i.0; within = w; valid = i.1 }
line-right s at None w h = λ m rest v t. let z : ◌≡◌ {A = ℕ} 0 1 = cc (line-complete m rest v) in omega arith
