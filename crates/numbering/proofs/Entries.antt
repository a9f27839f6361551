-- The entry of a part tells its key. Assumes nothing.
use mathlib.Core.Path.{◌≡◌, refl, sym, ap, ap₂, ◌∙◌}
use mathlib.Core.List.{List, ◌++◌, append_assoc}
use Prim.Native.Nat.{ℕ, ◌+◌, ◌-◌, ◌≤◌, ◌<◌}
use native.Mathlib.Omega.{arith}
use lib.ListN.{length, get_or, take, drop, length-append}
use lib.Seq.{drop_at, take_at}
use borrow.Author.Tests.{eq-eqb, ne_eqb, lt-ltb, le-ltb}
use Rattle.condition.specs.Condition.{Condition, atom, unary, binary, spell_condition, parts}
use Rattle.condition.specs.Words.{word, code_in, left_in, start_in, end_in, unary_code, binary_code}
use Rattle.condition.proofs.Words.{operator_code, unary-code, binary-code, Stands, stands-order, stands-within, Operands, Describes, held-describes}
use Rattle.table.specs.Fill.{left_of}
use Rattle.sharing.specs.Sharing.{most_tables, part, number_of}
use Rattle.sharing.specs.Keys.{Known, text, operator, key_of}
use Rattle.keys.specs.Store.{span, key_in, Formed}
use Rattle.keys.proofs.Told.{key-text, key-operator}
use Rattle.numbering.specs.Numbering.{entry_of, Usable, Line}

-- the fields of an entry
module _ (u : List ℕ) where
  pub text-entry : (start end : ℕ) → start < 65536 → key_in u (word 0 0 start end) ≡ text (span start end u)
  text-entry start end l =
      let a : code_in (word 0 0 start end) ≡ 0 = omega arith in
      let b : start_in (word 0 0 start end) ≡ start = omega arith in
      let c : end_in (word 0 0 start end) ≡ end = omega arith in
      key-text u (word 0 0 start end) a ∙ ap₂ (λ (s e : ℕ). text (span s e u)) b c

  pub text-formed : (start end : ℕ) → start < 65536 → start ≤ end → end ≤ length u → Formed u (word 0 0 start end)
  text-formed start end l o w =
      let b : start_in (word 0 0 start end) ≡ start = omega arith in
      let c : end_in (word 0 0 start end) ≡ end = omega arith in
      let a : code_in (word 0 0 start end) ≡ 0 = omega arith in
      record { order = λ _. omega arith; within = λ _. omega arith; plain = λ n. absurd (n a) }

  module _ (code left right : ℕ) (some : 0 < code) (c : code < 256) (a : left < 65536) (b : right < 65536) where
    own : code_in (word code left right 0) ≡ code
    own = omega arith

    pub operator-entry : key_in u (word code left right 0) ≡ operator code left right
    operator-entry =
        let x : left_in (word code left right 0) ≡ left = omega arith in
        let y : start_in (word code left right 0) ≡ right = omega arith in
        let n : code_in (word code left right 0) ≡ 0 → ⊥ = λ z. omega (arith, own) in
        key-operator u (word code left right 0) n ∙ cc (own)

    pub operator-formed : Formed u (word code left right 0)
    operator-formed = record { order = λ z. absurd (omega (arith, own)); within = λ z. absurd (omega (arith, own)); plain = λ _. omega arith }

-- the text of a part of the line stands in the whole text
module _ {u : List ℕ} {base m : ℕ} {ws : List ℕ} {ps : List Condition} {c : Condition} (x : Line u base m ws ps c) (w : ℕ) (p : Condition) (d : Stands x.line w p) where
  span-text : span (base + start_in w) (base + end_in w) u ≡ spell_condition p
  span-text =
      let f : List ℕ = x.front ++ d.front in
      let r : List ℕ = d.rest ++ x.rest in
      let e : u ≡ f ++ (spell_condition p ++ r) = x.text ∙ ap (λ (t : List ℕ). x.front ++ (t ++ x.rest)) d.text ∙ simp append_assoc in
      let g : length f ≡ base + start_in w = length-append x.front d.front ∙ omega (arith, x.starts, d.starts) in
      let n : base + end_in w - (base + start_in w) ≡ length (spell_condition p) = omega (arith, d.starts, d.ends) in
      let h : drop (base + start_in w) u ≡ spell_condition p ++ r = ap (drop (base + start_in w)) e ∙ drop_at f (spell_condition p ++ r) (base + start_in w) g in
      ap (take (base + end_in w - (base + start_in w))) h ∙ take_at (spell_condition p) r (base + end_in w - (base + start_in w)) (sym n)

  span-within : base + end_in w ≤ length u
  span-within =
      let a = stands-within d in
      let e : length u ≡ length x.front + (length x.line + length x.rest) = ap length x.text ∙ simp length-append in
      omega (arith, x.starts)

-- the entry of part k, where ds numbers the parts before it
module _ {u : List ℕ} {base m : ℕ} {ws : List ℕ} {ps : List Condition} {c : Condition} (x : Line u base m ws ps c) (k : ℕ) (l : k < m) (ns : List ℕ) (room : k ≤ length ns)
    (ds : List Condition) (few : length ds ≤ most_tables) (numbers : (i : ℕ) → i < k → get_or ns i 0 ≡ number_of ds (part (parts c) i))
    (known : (i : ℕ) → i < k → Known ds (part (parts c) i)) where
  abbrev w : ℕ
  w = get_or ws k 0

  describes : Describes x.line (parts c) 0 k w
  describes = held-describes x.held.taken x.held.held k l

  -- a part before has a number, and a small one
  number : (i : ℕ) → i < k → (q : Condition) → part (parts c) i ≡ q → get_or ns i 0 ≡ number_of ds q
  number i b q e = numbers i b ∙ ap (number_of ds) e

  small : (i : ℕ) → i < k → get_or ns i 0 < 65536
  small i b = let a = known i b in omega (arith, numbers i b)

  left-unary : (code : ℕ) → code_in w ≡ code → code < 14 → left_of w k ≡ k - 1
  left-unary code e b = rw (lt-ltb (code_in w) 14 (omega arith))

  left-binary : (code : ℕ) → code_in w ≡ code → 14 ≤ code → left_of w k ≡ left_in w
  left-binary code e b = rw (le-ltb (code_in w) 14 (omega arith))

  operator-told : (code : ℕ) → code_in w ≡ code → 0 < code → code < 256 → left_of w k < k → (a b : ℕ) → get_or ns (left_of w k) 0 ≡ a → get_or ns (k - 1) 0 ≡ b → a < 65536 → b < 65536
      → (key_in u (entry_of w base ns k) ≡ operator code a b) × Formed u (entry_of w base ns k)
  operator-told code e some big i a b f g y z =
      let n : code_in w ≡ 0 → ⊥ = λ q. omega arith in
      let s : entry_of w base ns k ≡ word code a b 0 = rw (ne_eqb (code_in w) 0 n, f, g, e) in
      rw s (operator-entry u code a b some big y z, operator-formed u code a b some big y z)

  told : (q : Condition) → part (parts c) k ≡ q → code_in w ≡ operator_code q → Stands x.line w q → Operands (parts c) 0 k w q
      → (key_in u (entry_of w base ns k) ≡ key_of ds q) × Formed u (entry_of w base ns k)
  unfolding spell_condition
  told (atom a) e code d o =
      let s : entry_of w base ns k ≡ word 0 0 (base + start_in w) (base + end_in w) = rw (eq-eqb (code_in w) 0 code) in
      let y = stands-order d in
      let z = stands-within d in
      let b : base + start_in w < 65536 = omega (arith, x.near) in
      rw s (text-entry u (base + start_in w) (base + end_in w) b ∙ ap text (span-text x w (atom a) d), text-formed u (base + start_in w) (base + end_in w) b (omega arith) (span-within x w (atom a) d))
  told (unary f p) e code d o =
      let b = unary-code f in
      let i : left_of w k ≡ k - 1 = left-unary (unary_code f) code b.1 in
      let y = o.later in
      let n : get_or ns (k - 1) 0 ≡ number_of ds p = number (k - 1) (omega arith) p o.operand in
      let z : number_of ds p < 65536 = omega (arith, small (k - 1) (omega arith)) in
      operator-told (unary_code f) code b.0 (omega arith) (omega arith) (number_of ds p) (number_of ds p) (rw i n) n z z
  told (binary f p q) e code d o =
      let b = binary-code f in
      let y = o.earlier in
      let i : left_of w k ≡ o.left = left-binary (binary_code f) code b.0 ∙ o.named ∙ omega arith in
      let n : get_or ns o.left 0 ≡ number_of ds p = number o.left y p o.first in
      let v : get_or ns (k - 1) 0 ≡ number_of ds q = number (k - 1) (omega arith) q o.second in
      operator-told (binary_code f) code (omega arith) b.1 (omega arith) (number_of ds p) (number_of ds q) (rw i n) v
      (omega (arith, small o.left y)) (omega (arith, small (k - 1) (omega arith)))

  pub entry-told : (key_in u (entry_of w base ns k) ≡ key_of ds (part (parts c) k)) × Formed u (entry_of w base ns k)
  entry-told = told (part (parts c) k) refl describes.code describes.stands describes.operands

  -- an operator's operands lie before
  before : (q : Condition) → code_in w ≡ operator_code q → Operands (parts c) 0 k w q → (code_in w ≡ 0 → ⊥) → left_of w k < k
  before (atom a) code o n = absurd (n code)
  before (unary f p) code o n = let b = unary-code f in let i = left-unary (unary_code f) code b.1 in let y = o.later in omega arith
  before (binary f p q) code o n =
      let b = binary-code f in
      let i : left_of w k ≡ o.left = left-binary (binary_code f) code b.0 ∙ o.named ∙ omega arith in
      let y = o.earlier in
      omega arith

  pub entry-usable : Usable w base k ns
  entry-usable =
      let z = stands-within describes.stands in
      record {
        near = omega (arith, x.near);
        later = λ n. (before (part (parts c) k) describes.code describes.operands n, room);
        order = stands-order describes.stands;
        small = small;
      }
