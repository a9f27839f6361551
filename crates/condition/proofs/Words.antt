-- What the words of a condition tell of its parts: the operator's code, the numbers of the operands' parts, and where the part's text
-- stands. Assumes nothing.
use mathlib.Core.Path.{◌≡◌, refl, ap, sym, ◌∙◌}
use mathlib.Core.List.{List, [], ◌∷◌, ◌++◌, append_assoc, append-nil}
use mathlib.Core.Bool.{Bool, true, false}
use Prim.Native.Nat.{ℕ, zero, suc, ◌+◌, ◌-◌, ◌≤◌, ◌<◌}
use native.Mathlib.Omega.{arith}
use lib.Dec.{ltb}
use lib.ListN.{length, take, drop, get_or, length-append, get_or-append}
use lib.Seq.{get_or-append_seam, get_or-append-add, drop-append_seam, take-append_seam, get_or-take}
use borrow.Author.Tests.{ltb-true, ltb-false}
use Rattle.ctl.specs.Paths.{E, A, forward, backward}
use Rattle.condition.specs.declared.Atom.TheVariants.{True}
use Rattle.condition.specs.Condition.{next, finally, globally, until, weak, Unary, negation, Binary, conjunction, disjunction, Condition, atom, unary, binary, prefix, opening, middle, closing, spell_condition, ValidCondition, parts}
use Rattle.condition.specs.Texts.{Taken}
use Rattle.condition.specs.Words.{unary_code, binary_code, word, code_in, left_in, start_in, end_in, words, Held}
use Rattle.condition.proofs.Parts.{part, parts-few, parts_last}

-- each part has its word
pub words-length : (c : Condition) (n at : ℕ) → length (words c n at) ≡ length (parts c)
unfolding words parts
words-length (atom a) n at = refl
words-length (unary o p) n at = simp (length-append, words-length p n (at + length (prefix o)))
words-length (binary o p q) n at =
    let first : ℕ = at + length (opening o) in
    simp (length-append, words-length p n first, words-length q (n + length (parts p)) (first + length (spell_condition p) + length (middle o)))

abbrev pub operator_code : Condition → ℕ
operator_code (atom a) = 0
operator_code (unary o p) = unary_code o
operator_code (binary o p q) = binary_code o

pub unary-code : (o : Unary) → (0 < unary_code o) × (unary_code o < 14)
unary-code negation = (omega arith, omega arith)
unary-code (Unary.path E forward next) = (omega arith, omega arith)
unary-code (Unary.path E forward finally) = (omega arith, omega arith)
unary-code (Unary.path E forward globally) = (omega arith, omega arith)
unary-code (Unary.path E backward next) = (omega arith, omega arith)
unary-code (Unary.path E backward finally) = (omega arith, omega arith)
unary-code (Unary.path E backward globally) = (omega arith, omega arith)
unary-code (Unary.path A forward next) = (omega arith, omega arith)
unary-code (Unary.path A forward finally) = (omega arith, omega arith)
unary-code (Unary.path A forward globally) = (omega arith, omega arith)
unary-code (Unary.path A backward next) = (omega arith, omega arith)
unary-code (Unary.path A backward finally) = (omega arith, omega arith)
unary-code (Unary.path A backward globally) = (omega arith, omega arith)

pub binary-code : (o : Binary) → (14 ≤ binary_code o) × (binary_code o < 256)
binary-code conjunction = (omega arith, omega arith)
binary-code disjunction = (omega arith, omega arith)
binary-code (Binary.path E forward until) = (omega arith, omega arith)
binary-code (Binary.path E forward weak) = (omega arith, omega arith)
binary-code (Binary.path E backward until) = (omega arith, omega arith)
binary-code (Binary.path E backward weak) = (omega arith, omega arith)
binary-code (Binary.path A forward until) = (omega arith, omega arith)
binary-code (Binary.path A forward weak) = (omega arith, omega arith)
binary-code (Binary.path A backward until) = (omega arith, omega arith)
binary-code (Binary.path A backward weak) = (omega arith, omega arith)

-- the part p stands in the text s where its word w says
pub record Stands (s : List ℕ) (w : ℕ) (p : Condition) : Type 0 where
  pub front : List ℕ
  pub rest : List ℕ
  pub text : s ≡ front ++ (spell_condition p ++ rest)
  pub starts : start_in w ≡ length front
  pub ends : end_in w ≡ length front + length (spell_condition p)
  pub valid : ValidCondition p

-- part k's operand is q
pub record Follows (ps : List Condition) (k : ℕ) (q : Condition) : Type 0 where
  pub later : 0 < k
  pub operand : part ps (k - 1) ≡ q

-- part k's operands are p and q; w names the part of p, parts being numbered from n
pub record Joins (ps : List Condition) (n k w : ℕ) (p q : Condition) : Type 0 where
  pub left : ℕ
  pub earlier : left < k
  pub named : left_in w ≡ n + left
  pub first : part ps left ≡ p
  pub second : part ps (k - 1) ≡ q

-- what the word w of part k tells of its operands
abbrev pub Operands : List Condition → ℕ → ℕ → ℕ → Condition → Type 0
Operands ps n k w (atom a) = Unit
Operands ps n k w (unary o q) = Follows ps k q
Operands ps n k w (binary o p q) = Joins ps n k w p q

-- the word w describes part k of the parts ps, numbered from n, of a condition in the text s
pub record Describes (s : List ℕ) (ps : List Condition) (n k w : ℕ) : Type 0 where
  pub code : code_in w ≡ operator_code (part ps k)
  pub stands : Stands s w (part ps k)
  pub operands : Operands ps n k w (part ps k)

-- the fields of a word
module _ (code left start end : ℕ) (c : code < 256) where
  word-code : code_in (word code left start end) ≡ code
  word-code = omega arith

  module _ (l : left < 65536) where
    word-left : left_in (word code left start end) ≡ left
    word-left = omega arith

    module _ (s : start < 65536) where
      word-start : start_in (word code left start end) ≡ start
      word-start = omega arith

      word_end : end_in (word code left start end) ≡ end
      word_end = omega arith

-- the word of a condition that stands after the front
module _ (c : Condition) (s front rest : List ℕ) (t : s ≡ front ++ (spell_condition c ++ rest)) where
  text-length : length s ≡ length front + (length (spell_condition c) + length rest)
  text-length = ap length t ∙ simp length-append

  word_stands : (code left at : ℕ) → code < 256 → left < 65536 → at ≡ length front → length s < 65536 → ValidCondition c
      → Stands s (word code left at (at + length (spell_condition c))) c
  word_stands code left at h l b i v =
      let z = text-length in
      let end : ℕ = at + length (spell_condition c) in
      record {
        front = front;
        rest = rest;
        text = t;
        starts = word-start code left at end h l (omega arith) ∙ b;
        ends = word_end code left at end h l (omega arith) ∙ ap (λ (x : ℕ). x + length (spell_condition c)) b;
        valid = v;
      }

-- a part's text is what lies between its start and its end
module _ {s : List ℕ} {w : ℕ} {p : Condition} (d : Stands s w p) where
  pub stands-order : start_in w ≤ end_in w
  stands-order = omega (arith, d.starts, d.ends)

  pub stands-within : end_in w ≤ length s
  stands-within = omega (arith, d.ends, text-length p s d.front d.rest d.text)

  pub stands-short : length (spell_condition p) ≤ length s
  stands-short = omega (arith, d.ends, stands-within)

  pub stands_from : drop (start_in w) s ≡ spell_condition p ++ d.rest
  stands_from = rw (d.starts, d.text) (drop-append_seam d.front (spell_condition p ++ d.rest))

  pub stands-text : take (end_in w - start_in w) (drop (start_in w) s) ≡ spell_condition p
  stands-text =
      let e : end_in w - start_in w ≡ length (spell_condition p) = omega (arith, d.starts, d.ends) in
      rw (e, stands_from) (take-append_seam (spell_condition p) d.rest)

-- a part among more parts
module _ (ps qs : List Condition) where
  part_left : (k : ℕ) → k < length ps → part (ps ++ qs) k ≡ part ps k
  part_left k h = get_or-append ps qs (atom True) k h

  part_right : (k : ℕ) → part (ps ++ qs) (length ps + k) ≡ part qs k
  part_right k = get_or-append-add ps qs k (atom True)

  module _ (n k w : ℕ) where
    operands-left : (p : Condition) → k < length ps → Operands ps n k w p → Operands (ps ++ qs) n k w p
    operands-left (atom a) h d = tt
    operands-left (unary o q) h d = let l = d.later in record { later = l; operand = part_left (k - 1) (omega arith) ∙ d.operand }
    operands-left (binary o p q) h d =
        let e = d.earlier in
        record { left = d.left; earlier = e; named = d.named; first = part_left d.left (omega arith) ∙ d.first; second = part_left (k - 1) (omega arith) ∙ d.second }

    describes-left : {s : List ℕ} → k < length ps → Describes s ps n k w → Describes s (ps ++ qs) n k w
    describes-left h d = let e = part_left k h in record { code = rw e d.code; stands = rw e d.stands; operands = rw e (operands-left (part ps k) h d.operands) }

    operands-right : (p : Condition) → Operands qs (n + length ps) k w p → Operands (ps ++ qs) n (length ps + k) w p
    operands-right (atom a) d = tt
    operands-right (unary o q) d =
        let l = d.later in
        let e : length ps + k - 1 ≡ length ps + (k - 1) = omega arith in
        record { later = omega arith; operand = rw (e, part_right (k - 1)) d.operand }
    operands-right (binary o p q) d =
        let l = d.earlier in
        let m = d.named in
        let e : length ps + k - 1 ≡ length ps + (k - 1) = omega arith in
        record { left = length ps + d.left; earlier = omega arith; named = omega arith; first = part_right d.left ∙ d.first; second = rw (e, part_right (k - 1)) d.second }

    describes-right : {s : List ℕ} → Describes s qs (n + length ps) k w → Describes s (ps ++ qs) n (length ps + k) w
    describes-right d = let e = part_right k in record { code = rw e d.code; stands = rw e d.stands; operands = rw e (operands-right (part qs k) d.operands) }

below_or_not : {C : Type 0} (k m : ℕ) → (k < m → C) → (m ≤ k → C) → C
below_or_not {C} k m f g = go (ltb k m) refl
  where
    go : (b : Bool) → ltb k m ≡ b → C
    go true e = f (ltb-true k m e)
    go false e = g (ltb-false k m e)

-- the word of an operator comes after those of its operands
unary-describes : (s front rest : List ℕ) (o : Unary) (p : Condition) (n at : ℕ) → at ≡ length front → s ≡ front ++ (spell_condition (unary o p) ++ rest) → length s < 65536 → ValidCondition p
    → Describes s (parts p ++ unary o p ∷ []) n (length (parts p)) (word (unary_code o) 0 at (at + length (spell_condition (unary o p))))
unary-describes s front rest o p n at b t i v =
    let e : part (parts p ++ unary o p ∷ []) (length (parts p)) ≡ unary o p = get_or-append_seam (parts p) (unary o p) [] (atom True) in
    let f = parts-few p in
    let small : unary_code o < 256 = omega (arith, unary-code o) in
    record {
      code = rw e (word-code (unary_code o) 0 at _ small);
      stands = rw e (word_stands (unary o p) s front rest t (unary_code o) 0 at small (omega arith) b i v);
      operands = rw e (record { later = f.0; operand = part_left (parts p) (unary o p ∷ []) (length (parts p) - 1) (omega arith) ∙ parts_last p });
    }

binary-describes : (s front rest : List ℕ) (o : Binary) (p q : Condition) (n at : ℕ) → at ≡ length front → s ≡ front ++ (spell_condition (binary o p q) ++ rest) → length s < 65536
    → ValidCondition (binary o p q) → n + length (parts p) < 65536
    → Describes s (parts p ++ (parts q ++ binary o p q ∷ [])) n (length (parts p) + length (parts q))
    (word (binary_code o) (n + length (parts p) - 1) at (at + length (spell_condition (binary o p q))))
binary-describes s front rest o p q n at b t i v h =
    let e : part (parts p ++ (parts q ++ binary o p q ∷ [])) (length (parts p) + length (parts q)) ≡ binary o p q =
    part_right (parts p) (parts q ++ binary o p q ∷ []) (length (parts q)) ∙ get_or-append_seam (parts q) (binary o p q) [] (atom True) in
    let f = parts-few p in
    let g = parts-few q in
    let small : binary_code o < 256 = (binary-code o).1 in
    let left : ℕ = n + length (parts p) - 1 in
    let l : length (parts p) + length (parts q) - 1 ≡ length (parts p) + (length (parts q) - 1) = omega arith in
    let w = word-left (binary_code o) left at (at + length (spell_condition (binary o p q))) small (omega arith) in
    record {
      code = rw e (word-code (binary_code o) left at _ small);
      stands = rw e (word_stands (binary o p q) s front rest t (binary_code o) left at small (omega arith) b i v);
      operands = rw e (record {
        left = length (parts p) - 1;
        earlier = omega arith;
        named = w ∙ omega arith;
        first = part_left (parts p) (parts q ++ binary o p q ∷ []) (length (parts p) - 1) (omega arith) ∙ parts_last p;
        second =
            rw (l, part_right (parts p) (parts q ++ binary o p q ∷ []) (length (parts q) - 1))
            (part_left (parts q) (binary o p q ∷ []) (length (parts q) - 1) (omega arith) ∙ parts_last q);
      });
    }

-- the words of an operator's parts: those of its operands, and its own
module _ {s : List ℕ} (ps : List Condition) (c : Condition) (us : List ℕ) (w n : ℕ) (x : length us ≡ length ps) (f : (k : ℕ) → k < length ps → Describes s ps n k (get_or us k 0)) where
  one-operand : Describes s (ps ++ c ∷ []) n (length ps) w → (k : ℕ) → k < length (ps ++ c ∷ []) → Describes s (ps ++ c ∷ []) n k (get_or (us ++ w ∷ []) k 0)
  one-operand last k l =
      let i = length-append ps (c ∷ []) in
      below_or_not k (length ps)
      (λ b. rw (get_or-append us (w ∷ []) 0 k (omega arith)) (describes-left ps (c ∷ []) n k (get_or us k 0) b (f k b)))
      (λ b.
      let y : k ≡ length us = omega arith in
      let z : k ≡ length ps = omega arith in
      rw (ap (λ (j : ℕ). get_or (us ++ w ∷ []) j 0) y ∙ get_or-append_seam us w [] 0, z) last)

  module _ (qs : List Condition) (vs : List ℕ) (y : length vs ≡ length qs) (g : (k : ℕ) → k < length qs → Describes s qs (n + length ps) k (get_or vs k 0)) where
    second-operand : (j : ℕ) → j < length qs → Describes s (ps ++ (qs ++ c ∷ [])) n (length ps + j) (get_or (us ++ (vs ++ w ∷ [])) (length ps + j) 0)
    second-operand j h =
        let e : get_or (us ++ (vs ++ w ∷ [])) (length ps + j) 0 ≡ get_or vs j 0 =
        ap (λ (z : ℕ). get_or (us ++ (vs ++ w ∷ [])) (z + j) 0) (sym x) ∙ get_or-append-add us (vs ++ w ∷ []) j 0 ∙ get_or-append vs (w ∷ []) 0 j (omega arith) in
        rw e (describes-right ps (qs ++ c ∷ []) n j (get_or vs j 0) (describes-left qs (c ∷ []) (n + length ps) j (get_or vs j 0) h (g j h)))

    last_word : (k : ℕ) → k ≡ length us + length vs → get_or (us ++ (vs ++ w ∷ [])) k 0 ≡ w
    last_word k e = rw e (get_or-append-add us (vs ++ w ∷ []) (length vs) 0 ∙ get_or-append_seam vs w [] 0)

    two_operands : Describes s (ps ++ (qs ++ c ∷ [])) n (length ps + length qs) w
        → (k : ℕ) → k < length (ps ++ (qs ++ c ∷ [])) → Describes s (ps ++ (qs ++ c ∷ [])) n k (get_or (us ++ (vs ++ w ∷ [])) k 0)
    two_operands last k l =
        let i : length (ps ++ (qs ++ c ∷ [])) ≡ length ps + (length qs + 1) = simp length-append in
        below_or_not k (length ps)
        (λ b. rw (get_or-append us (vs ++ w ∷ []) 0 k (omega arith)) (describes-left ps (qs ++ c ∷ []) n k (get_or us k 0) b (f k b)))
        (λ b.
        below_or_not (k - length ps) (length qs)
        (λ h. let z : length ps + (k - length ps) ≡ k = omega arith in rw z at (second-operand (k - length ps) h))
        (λ h. let z : k ≡ length ps + length qs = omega arith in rw (last_word k (omega arith), z) last))

-- where the operands' texts stand
operand-text : (s front rest : List ℕ) (o : Unary) (p : Condition) → s ≡ front ++ (spell_condition (unary o p) ++ rest) → s ≡ (front ++ prefix o) ++ (spell_condition p ++ rest)
unfolding spell_condition
operand-text s front rest o p e = e ∙ simp append_assoc

module _ (s front rest : List ℕ) (o : Binary) (p q : Condition) (e : s ≡ front ++ (spell_condition (binary o p q) ++ rest)) where
  first-text : s ≡ (front ++ opening o) ++ (spell_condition p ++ (middle o ++ (spell_condition q ++ (closing o ++ rest))))
  unfolding spell_condition
  first-text = e ∙ simp append_assoc

  second-text : s ≡ (front ++ (opening o ++ (spell_condition p ++ middle o))) ++ (spell_condition q ++ (closing o ++ rest))
  unfolding spell_condition
  second-text = e ∙ simp append_assoc

-- each word of a valid condition, whose text stands after `front` in s, describes its part
words-describe : (c : Condition) (s front rest : List ℕ) (n at : ℕ) → at ≡ length front → ValidCondition c → n + length (parts c) ≤ 65536 → length s < 65536
    → s ≡ front ++ (spell_condition c ++ rest) → (k : ℕ) → k < length (parts c) → Describes s (parts c) n k (get_or (words c n at) k 0)
unfolding parts words
words-describe (atom a) s front rest n at b v m i e zero h =
    record { code = word-code 0 0 at _ (omega arith); stands = word_stands (atom a) s front rest e 0 0 at (omega arith) (omega arith) b i v; operands = tt }
words-describe (atom a) s front rest n at b v m i e (suc k) h = absurd (omega arith)
words-describe (unary o p) s front rest n at b v m i e k h =
    let l = length-append (parts p) (unary o p ∷ []) in
    let j = length-append front (prefix o) in
    let first : ℕ = at + length (prefix o) in
    one-operand (parts p) (unary o p) (words p n first) _ n (words-length p n first)
    (words-describe p s (front ++ prefix o) rest n first (omega arith) v (omega arith) i (operand-text s front rest o p e))
    (unary-describes s front rest o p n at b e i v) k h
words-describe (binary o p q) s front rest n at b v m i e k h =
    let l : length (parts p ++ (parts q ++ binary o p q ∷ [])) ≡ length (parts p) + (length (parts q) + 1) = simp length-append in
    let j = length-append front (opening o) in
    let first : ℕ = at + length (opening o) in
    let second : ℕ = first + length (spell_condition p) + length (middle o) in
    let f : second ≡ length (front ++ (opening o ++ (spell_condition p ++ middle o))) = simp length-append (omega arith) in
    two_operands (parts p) (binary o p q) (words p n first) _ n (words-length p n first)
    (words-describe p s (front ++ opening o) _ n first (omega arith) v.0 (omega arith) i (first-text s front rest o p q e))
    (parts q) (words q (n + length (parts p)) second) (words-length q (n + length (parts p)) second)
    (words-describe q s (front ++ (opening o ++ (spell_condition p ++ middle o))) _ (n + length (parts p)) second f v.1 (omega arith) i (second-text s front rest o p q e))
    (binary-describes s front rest o p q n at b e i v (omega arith)) k h

-- of a text that was taken, each word describes its part
pub held-describes : {t : List ℕ} {c : Condition} {m : ℕ} {ws : List ℕ} → Taken t c → Held c m ws → (k : ℕ) → k < m → Describes t (parts c) 0 k (get_or ws k 0)
held-describes {t = t} {c = c} {m = m} {ws = ws} a d k h =
    let n = d.counted in
    let f = a.few in
    let e : get_or (words c 0 0) k 0 ≡ get_or ws k 0 = ap (λ (l : List ℕ). get_or l k 0) (sym d.kept) ∙ get_or-take m ws k 0 h in
    let s : t ≡ [] ++ (spell_condition c ++ []) = a.spells.spelling ∙ sym (append-nil (spell_condition c)) in
    rw e at (words-describe c t [] [] 0 0 refl a.spells.valid (omega arith) (omega (arith, a.short)) s k (omega arith))
