-- Reading undoes spelling, and the other way round: atoms. Assumes nothing.
use mathlib.Core.Path.{◌≡◌, refl, ap, sym, ◌∙◌}
use mathlib.Core.List.{List, [], ◌∷◌, ◌++◌, append_assoc}
use mathlib.Core.Bool.{Bool, true, false}
use Prim.Native.Nat.{ℕ, ◌<◌}
use native.Mathlib.Omega.{arith}
use borrow.Author.Tests.{ne_eqb}
use lib.Dec.{eqb}
use lib.ListN.{length, drop, get_or}
use Rattle.base.specs.Bytes.{bytes, byte}
use Rattle.language.specs.Spelling.{digits, spell_variable, spell_expression, spell}
use Rattle.tokens.specs.Parsing.{Parsed, found, misspelled, after, parse_word, digit_of, parse_number, parse_variable}
use Rattle.base.specs.Pick.{pick}
use Rattle.statement_reader.specs.Parsing.{parse_expression, parse_statement}
use Rattle.tokens.proofs.Parse.{after-inv, after_or-inv, skip-sound}
use Rattle.tokens.proofs.Numbers.{number-sound, number-complete, variable-sound, variable-complete}
use Rattle.statement_reader.proofs.Lines.{expression-sound, expression-complete, statement-sound, statement-complete}
use Rattle.tokens.proofs.Steps.{at_byte}
use Rattle.condition.specs.declared.Atom.{Atom}
use Rattle.condition.specs.declared.Atom.TheVariants.{True, False, Entry, Exit, Node, Stmt, Def, Use, Trans}
use Rattle.condition.specs.Condition.{spell_atom, ValidAtom}
use Rattle.atom_reader.specs.Parsing.{parse_ended, parse_node, parse_stmt, parse_def, parse_use, parse_trans, parse_true_or_trans, parse_entry_or_exit, by_first, parse_atom}

pub pick_inv : {A C : Type 0} (b : Bool) (p q : Parsed A) {a : A} {u : List ℕ} → pick b p q ≡ found a u → (b ≡ true → p ≡ found a u → C) → (q ≡ found a u → C) → C
pick_inv true p q e k m = k refl e
pick_inv false p q e k m = m e

pub ended-sound : {A : Type 0} (w : List ℕ) (a : A) (l : List ℕ) {b : A} {u : List ℕ} → parse_ended w a l ≡ found b u → (a ≡ b) × (l ≡ w ++ u)
unfolding parse_ended
ended-sound w a l e = after-inv (parse_word w l) _ e λ _ t e₁ f₁. let q : a ≡ _ = cc in (q, skip-sound w l e₁ ∙ ap (λ (x : List ℕ). w ++ x) (cc))

-- l spells the valid atom a before u
abbrev SpelledAtom : List ℕ → Atom → List ℕ → Type 0
SpelledAtom l a u = (l ≡ spell_atom a ++ u) × ValidAtom a

-- an atom with something in brackets, grouped as it is read
enclosed-text : (w t u : List ℕ) → (w ++ (t ++ bytes ")")) ++ u ≡ w ++ (t ++ byte ")" ∷ u)
enclosed-text w t u = simp append_assoc

-- an atom that is one word
word_sound : (b : Atom) (w : List ℕ) → spell_atom b ≡ w → ValidAtom b → (l : List ℕ) (a : Atom) (u : List ℕ) → parse_ended w b l ≡ found a u → SpelledAtom l a u
word_sound b w s v l a u e = let i = ended-sound w b l e in rw (← i.0) (i.1 ∙ rw s, v)

-- an atom with something in brackets: what stands there was read by a sound reader
enclosed-sound : {A : Type 0} (p : List ℕ → Parsed A) (spelt : A → List ℕ) (Good : A → Type 0) (sound : (l : List ℕ) (x : A) (u : List ℕ) → p l ≡ found x u → (l ≡ spelt x ++ u) × Good x)
    (w : List ℕ) (f : A → Atom) → ((x : A) → spell_atom (f x) ≡ w ++ (spelt x ++ bytes ")")) → ((x : A) → Good x → ValidAtom (f x))
    → (l : List ℕ) (a : Atom) (u : List ℕ) → after (parse_word w l) (λ _ t. after (p t) λ x v. parse_ended (bytes ")") (f x) v) ≡ found a u → SpelledAtom l a u
enclosed-sound p spelt Good sound w f is valid l a u h =
    after-inv (parse_word w l) _ h λ _ t e₁ f₁.
    after-inv (p t) _ f₁ λ x v e₂ f₂.
    let i = sound t x v e₂ in
    let j = ended-sound (bytes ")") (f x) v f₂ in
    rw (← j.0) (rw (skip-sound w l e₁, i.0, j.1, is x) (sym (enclosed-text w (spelt x) u)), valid x i.1)

trans-sound : (l : List ℕ) (a : Atom) (u : List ℕ) → parse_trans l ≡ found a u → SpelledAtom l a u
unfolding parse_trans spell_atom
trans-sound = enclosed-sound parse_expression spell_expression _ expression-sound (bytes "trans(") Trans (λ x. refl) (λ x v. v)

true-or-trans-sound : (l : List ℕ) (a : Atom) (u : List ℕ) → parse_true_or_trans l ≡ found a u → SpelledAtom l a u
unfolding parse_true_or_trans parse_ended spell_atom
true-or-trans-sound l a u h = after_or-inv (parse_word (bytes "true") l) _ (parse_trans l) h (λ x t e f. word_sound True (bytes "true") refl tt l a u (rw e f)) (trans-sound l a u)

entry-or-exit-sound : (l : List ℕ) (a : Atom) (u : List ℕ) → parse_entry_or_exit l ≡ found a u → SpelledAtom l a u
unfolding parse_entry_or_exit parse_ended spell_atom
entry-or-exit-sound l a u h =
    after_or-inv (parse_word (bytes "entry") l) _ (parse_ended (bytes "exit") Exit l) h (λ x t e f. word_sound Entry (bytes "entry") refl tt l a u (rw e f)) (word_sound Exit (bytes "exit") refl tt l a u)

pub atom-sound : (l : List ℕ) (a : Atom) (u : List ℕ) → parse_atom l ≡ found a u → (l ≡ spell_atom a ++ u) × ValidAtom a
unfolding parse_atom parse_node parse_stmt parse_def parse_use spell_atom
atom-sound [] a u h = let z : ◌≡◌ {A = ℕ} 0 1 = cc in absurd (omega arith)
atom-sound (c ∷ l) a u h =
    pick_inv (eqb c (byte "t")) _ _ h (λ _. true-or-trans-sound (c ∷ l) a u) λ h₁.
    pick_inv (eqb c (byte "f")) _ _ h₁ (λ _. word_sound False (bytes "false") refl tt (c ∷ l) a u) λ h₂.
    pick_inv (eqb c (byte "e")) _ _ h₂ (λ _. entry-or-exit-sound (c ∷ l) a u) λ h₃.
    pick_inv (eqb c (byte "n")) _ _ h₃ (λ _. enclosed-sound parse_number digits _ number-sound (bytes "node(") Node (λ x. refl) (λ x v. v) (c ∷ l) a u) λ h₄.
    pick_inv (eqb c (byte "s")) _ _ h₄ (λ _. enclosed-sound parse_statement spell _ statement-sound (bytes "stmt(") Stmt (λ x. refl) (λ x v. v) (c ∷ l) a u) λ h₅.
    pick_inv (eqb c (byte "d")) _ _ h₅ (λ _. enclosed-sound parse_variable spell_variable _ variable-sound (bytes "def(") Def (λ x. refl) (λ x v. v) (c ∷ l) a u) λ h₆.
    pick_inv (eqb c (byte "u")) _ misspelled h₆ (λ _. enclosed-sound parse_variable spell_variable _ variable-sound (bytes "use(") Use (λ x. refl) (λ x v. v) (c ∷ l) a u) λ f.
    let z : ◌≡◌ {A = ℕ} 0 1 = cc in absurd (omega arith)

pub atom-complete : (a : Atom) (u : List ℕ) → ValidAtom a → parse_atom (spell_atom a ++ u) ≡ found a u
unfolding parse_atom parse_true_or_trans parse_entry_or_exit parse_node parse_stmt parse_def parse_use parse_trans parse_ended parse_word spell_atom digit_of
atom-complete True u v = refl
atom-complete False u v = refl
atom-complete Entry u v = refl
atom-complete Exit u v = refl
atom-complete (Node n) u v = ap parse_atom (enclosed-text (bytes "node(") (digits n) u) ∙ rw (number-complete n (byte ")" ∷ u) v refl)
atom-complete (Stmt i) u v = ap parse_atom (enclosed-text (bytes "stmt(") (spell i) u) ∙ rw (statement-complete i (byte ")" ∷ u) v refl refl)
atom-complete (Def x) u v = ap parse_atom (enclosed-text (bytes "def(") (spell_variable x) u) ∙ rw (variable-complete x (byte ")" ∷ u) v refl)
atom-complete (Use x) u v = ap parse_atom (enclosed-text (bytes "use(") (spell_variable x) u) ∙ rw (variable-complete x (byte ")" ∷ u) v refl)
atom-complete (Trans e) u v = ap parse_atom (enclosed-text (bytes "trans(") (spell_expression e) u) ∙ rw (expression-complete e (byte ")" ∷ u) v refl refl)

-- the text's first byte picks the reader
pub atom-first : (s : List ℕ) (at : ℕ) → at < length s → parse_atom (drop at s) ≡ by_first (get_or s at 0) (drop at s)
unfolding parse_atom
atom-first s at h = rw (at_byte s at h)

-- a byte that begins no atom
pub atom-other : (c : ℕ) (l : List ℕ) → (c ≡ 116 → ⊥) → (c ≡ 102 → ⊥) → (c ≡ 101 → ⊥) → (c ≡ 110 → ⊥) → (c ≡ 115 → ⊥) → (c ≡ 100 → ⊥) → (c ≡ 117 → ⊥) → misspelled ≡ by_first c l
atom-other c l a b d e f g h = rw (ne_eqb c 116 a, ne_eqb c 102 b, ne_eqb c 101 d, ne_eqb c 110 e, ne_eqb c 115 f, ne_eqb c 100 g, ne_eqb c 117 h)
