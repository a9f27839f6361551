-- Reading undoes spelling, and the other way round: conditions. Assumes nothing.
use mathlib.Core.Path.{◌≡◌, refl, ap, sym, ◌∙◌}
use mathlib.Core.List.{List, [], ◌∷◌, ◌++◌, append_assoc, append-nil}
use Prim.Native.Nat.{ℕ, zero, suc, ◌≤◌}
use native.Mathlib.Omega.{arith}
use lib.ListN.{length, length-append}
use borrow.Author.Tests.{eq-eqb}
use Rattle.tokens.specs.Parsing.{Parsed, found, parse_word}
use Rattle.tokens.proofs.Parse.{after-inv, after_or-inv, skip-sound}
use Rattle.ctl.specs.Paths.{E, A, forward, backward}
use Rattle.condition.specs.declared.Atom.{Atom}
use Rattle.condition.specs.declared.Atom.TheVariants.{True, False, Entry, Exit, Node, Stmt, Def, Use, Trans}
use Rattle.condition.specs.Condition.{next, finally, globally, Unary, negation, Binary, conjunction, disjunction, Condition, atom, unary, binary, prefix, opening, middle, closing, spell_atom, spell_condition, ValidCondition}
use Rattle.condition.specs.Texts.{Spells}
use Rattle.condition.proofs.Parts.{atom-longer, prefix-longer, opening-longer}
use Rattle.atom_reader.specs.Parsing.{parse_ended, parse_atom}
use Rattle.atom_reader.proofs.Spelling.{pick_inv, atom-sound, atom-complete}
use Rattle.operator_reader.specs.declared.Bracket.{Bracket}
use Rattle.operator_reader.specs.Parsing.{parse_prefix, opening_of, closing_of, parse_opening, parse_middle}
use Rattle.operator_reader.proofs.Spelling.{prefix-sound, prefix-complete, bracket_of, opened-by, opening-sound, middle-sound, middle-complete}
use Rattle.condition_reader.specs.Parsing.{parse_leaf, parse_unary, parse_binary, parse_bracketed, small, by_head, parse_condition}

-- l spells the valid condition c before u
abbrev pub SpelledCondition : List ℕ → Condition → List ℕ → Type 0
SpelledCondition l c u = (l ≡ spell_condition c ++ u) × ValidCondition c

-- the texts, grouped as they are read
pub unary-text : (o : Unary) (p : Condition) (u : List ℕ) → spell_condition (unary o p) ++ u ≡ prefix o ++ (spell_condition p ++ u)
unfolding spell_condition
unary-text o p u = simp append_assoc

pub binary-text : (o : Binary) (p q : Condition) (u : List ℕ)
    → spell_condition (binary o p q) ++ u ≡ opening o ++ (spell_condition p ++ (middle o ++ (spell_condition q ++ (closing o ++ u))))
unfolding spell_condition
binary-text o p q u = simp append_assoc

leaf-sound : (l : List ℕ) (c : Condition) (u : List ℕ) → parse_leaf l ≡ found c u → SpelledCondition l c u
unfolding parse_leaf spell_condition
leaf-sound l c u h =
    after-inv (parse_atom l) _ h λ a t e f.
    let p : atom a ≡ c = cc in
    let q : t ≡ u = cc in
    rw (← p, ← q) (atom-sound l a t e)

module _ (r : List ℕ → Parsed Condition) (ih : (l : List ℕ) (c : Condition) (u : List ℕ) → r l ≡ found c u → SpelledCondition l c u) where
  unary-sound : (l : List ℕ) (c : Condition) (u : List ℕ) → parse_unary r l ≡ found c u → SpelledCondition l c u
  unfolding parse_unary
  unary-sound l c u h =
      after-inv (parse_prefix l) _ h λ o t e₁ f₁.
      after-inv (r t) _ f₁ λ p v e₂ f₂.
      let x : unary o p ≡ c = cc in
      let y : v ≡ u = cc in
      let i = ih t p v e₂ in
      rw (← x, ← y) (rw (prefix-sound l o t e₁, i.0) (sym (unary-text o p v)), i.1)

  binary-sound : (b : Bracket) (l : List ℕ) (c : Condition) (u : List ℕ) → parse_binary b r l ≡ found c u → SpelledCondition (opening_of b ++ l) c u
  unfolding parse_binary
  binary-sound b l c u h =
      after-inv (r l) _ h λ p t e₁ f₁.
      after-inv (parse_middle b t) _ f₁ λ o v e₂ f₂.
      after-inv (r v) _ f₂ λ q x e₃ f₃.
      after-inv (parse_word (closing_of b) x) _ f₃ λ _ y e₄ f₄.
      let w : binary o p q ≡ c = cc in
      let z : y ≡ u = cc in
      let i = ih l p t e₁ in
      let j = ih v q x e₃ in
      let m = middle-sound b t o v e₂ in
      rw (← w, ← z) (rw (i.0, m.0, j.0, skip-sound (closing_of b) x e₄, ← m.1.opens, ← m.1.closes) (sym (binary-text o p q y)), (i.1, j.1))

  bracketed-sound : (l : List ℕ) (c : Condition) (u : List ℕ) → parse_bracketed r l ≡ found c u → SpelledCondition l c u
  unfolding parse_bracketed
  bracketed-sound l c u h =
      after_or-inv (parse_opening l) _ (parse_unary r l) h
      (λ b t e f. let i = binary-sound b t c u f in (opening-sound l b t e ∙ i.0, i.1))
      (unary-sound l c u)

  head-sound : (l : List ℕ) (c : Condition) (u : List ℕ) → by_head r l ≡ found c u → SpelledCondition l c u
  head-sound [] c u h = let z : ◌≡◌ {A = ℕ} 0 1 = cc in absurd (omega arith)
  head-sound (n ∷ l) c u h = pick_inv (small n) _ _ h (λ _. leaf-sound (n ∷ l) c u) (bracketed-sound (n ∷ l) c u)

-- what is read is what is spelled
pub condition-sound : (f : ℕ) (l : List ℕ) (c : Condition) (u : List ℕ) → parse_condition f l ≡ found c u → SpelledCondition l c u
unfolding parse_condition
condition-sound zero l c u h = let z : ◌≡◌ {A = ℕ} 0 1 = cc in absurd (omega arith)
condition-sound (suc f) l c u h = head-sound (parse_condition f) (condition-sound f) l c u h

-- the first byte, and for `E` and `A` the second, picks the reader
head-atom : (r : List ℕ → Parsed Condition) (a : Atom) (u : List ℕ) → by_head r (spell_atom a ++ u) ≡ parse_leaf (spell_atom a ++ u)
unfolding spell_atom
head-atom r True u = refl
head-atom r False u = refl
head-atom r Entry u = refl
head-atom r Exit u = refl
head-atom r (Node n) u = refl
head-atom r (Stmt i) u = refl
head-atom r (Def x) u = refl
head-atom r (Use x) u = refl
head-atom r (Trans e) u = refl

head-unary : (r : List ℕ → Parsed Condition) (o : Unary) (u : List ℕ) → by_head r (prefix o ++ u) ≡ parse_unary r (prefix o ++ u)
unfolding parse_bracketed parse_opening parse_ended parse_word
head-unary r negation u = refl
head-unary r (Unary.path E forward next) u = refl
head-unary r (Unary.path E forward finally) u = refl
head-unary r (Unary.path E forward globally) u = refl
head-unary r (Unary.path E backward next) u = refl
head-unary r (Unary.path E backward finally) u = refl
head-unary r (Unary.path E backward globally) u = refl
head-unary r (Unary.path A forward next) u = refl
head-unary r (Unary.path A forward finally) u = refl
head-unary r (Unary.path A forward globally) u = refl
head-unary r (Unary.path A backward next) u = refl
head-unary r (Unary.path A backward finally) u = refl
head-unary r (Unary.path A backward globally) u = refl

head-binary : (r : List ℕ → Parsed Condition) (o : Binary) (u : List ℕ) → by_head r (opening o ++ u) ≡ parse_binary (bracket_of o) r u
unfolding parse_bracketed parse_opening parse_ended parse_word
head-binary r conjunction u = refl
head-binary r disjunction u = refl
head-binary r (Binary.path E d o) u = refl
head-binary r (Binary.path A d o) u = refl

-- a word that stands there is skipped
pub skip-complete : (w u : List ℕ) → parse_word w (w ++ u) ≡ found tt u
unfolding parse_word
skip-complete [] u = refl
skip-complete (c ∷ w) u = rw (eq-eqb c c refl) (skip-complete w u)

-- what is spelled is read, with as much fuel as the text is long
pub condition-complete : (c : Condition) (f : ℕ) (u : List ℕ) → ValidCondition c → length (spell_condition c) ≤ f → parse_condition f (spell_condition c ++ u) ≡ found c u
unfolding parse_condition spell_condition parse_leaf parse_unary parse_binary
condition-complete (atom a) zero u v h = absurd (omega (arith, atom-longer a))
condition-complete (atom a) (suc f) u v h = head-atom (parse_condition f) a u ∙ rw (atom-complete a u v)
condition-complete (unary o p) zero u v h = absurd (omega (arith, prefix-longer o, length-append (prefix o) (spell_condition p)))
condition-complete (unary o p) (suc f) u v h =
    let l = length-append (prefix o) (spell_condition p) in
    let g = prefix-longer o in
    ap (parse_condition (suc f)) (unary-text o p u) ∙ head-unary (parse_condition f) o (spell_condition p ++ u)
    ∙ rw (prefix-complete o (spell_condition p ++ u), condition-complete p f u v (omega arith))
condition-complete (binary o p q) zero u v h = absurd (omega (arith, opening-longer o, simp length-append at h))
condition-complete (binary o p q) (suc f) u v h =
    let g = opening-longer o in
    let l = simp length-append at h in
    ap (parse_condition (suc f)) (binary-text o p q u) ∙ head-binary (parse_condition f) o (spell_condition p ++ (middle o ++ (spell_condition q ++ (closing o ++ u))))
    ∙ rw (
      condition-complete p f (middle o ++ (spell_condition q ++ (closing o ++ u))) v.0 (omega arith),
      middle-complete o (spell_condition q ++ (closing o ++ u)),
      condition-complete q f (closing o ++ u) v.1 (omega arith),
      ← (opened-by o).closes,
      skip-complete (closing o) u,
    )

pub whole-complete : (t : List ℕ) (c : Condition) → Spells t c → parse_condition (length t) t ≡ found c []
whole-complete t c s =
    let h : spell_condition c ++ [] ≡ t = append-nil (spell_condition c) ∙ sym s.spelling in
    let l = ap length s.spelling in
    rw h at (condition-complete c (length t) [] s.valid (omega arith))

-- a text is the spelling of one valid condition only
pub condition-unique : (t : List ℕ) (c d : Condition) → Spells t c → Spells t d → c ≡ d
condition-unique t c d p q =
    let a = whole-complete t c p in
    let b = whole-complete t d q in
    cc
