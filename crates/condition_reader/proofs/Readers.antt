-- The readers of conditions, step by step: what each tells, from what the readers that it calls tell. Assumes nothing.
use mathlib.Core.Path.{◌≡◌, refl, ap, ◌∙◌}
use mathlib.Core.List.{List, [], ◌∷◌, ◌++◌}
use mathlib.Core.Bool.{true, false}
use Prim.Native.Nat.{ℕ, zero, suc, ◌+◌, ◌-◌, ◌≤◌, ◌<◌}
use native.Mathlib.Omega.{arith}
use native.Mathlib.Nat.{le_refl}
use lib.ListN.{length, drop, set, get_or, length-append, length-drop}
use lib.Seq.{sets, length-sets}
use Rattle.tokens.specs.Parsing.{Parsed, found, misspelled, parse_word}
use Rattle.tokens.proofs.Parse.{skip-sound}
use Rattle.tokens.proofs.Steps.{at-end, at_byte}
use Rattle.statement_writer.proofs.Puts.{sets-append}
use Rattle.condition.specs.declared.Atom.{Atom}
use Rattle.condition.specs.Condition.{Binary, Condition, atom, unary, binary, prefix, opening, middle, closing, spell_atom, spell_condition, parts}
use Rattle.condition.specs.Texts.{most_bytes, most_parts}
use Rattle.condition.specs.Words.{unary_code, binary_code, word, words}
use Rattle.condition.proofs.Parts.{atom-longer, prefix-longer, unary-length, binary-length, parts-few}
use Rattle.condition.proofs.Words.{words-length}
use Rattle.atom_reader.specs.Parsing.{parse_atom}
use Rattle.atom_reader.proofs.Spelling.{atom-sound}
use Rattle.operator_reader.specs.declared.Bracket.{Bracket}
use Rattle.operator_reader.specs.declared.Bracket.TheVariants as bracket
use Rattle.std.specs.Prelude.{Option, Some, None}
use Rattle.operator_reader.specs.Parsing.{coded, opening_of, closing_of, parse_prefix, parse_opening, parse_middle}
use Rattle.operator_reader.proofs.Spelling.{prefix-sound, middle-sound}
use Rattle.operator_reader.proofs.Operators.{coded-inv, coded-not}
use Rattle.condition_reader.specs.Parsing.{parse_leaf, parse_unary, parse_binary, parse_bracketed, small, by_head, parse_condition, Stored, Tells, Reads, ReadsBy, Ready}
use Rattle.condition_reader.proofs.Spelling.{condition-sound}

-- positions, from the texts that lie between them
module _ (s w : List ℕ) (a b : ℕ) (e : drop a s ≡ w ++ drop b s) where
  between : length s - a ≡ length w + (length s - b)
  between = simp (length-append, length-drop) at (ap length e)

  pub beyond : 0 < length w → (a + length w ≤ b) × (a + length w ≤ length s)
  beyond h = omega (arith, between)

  pub position : 0 < length w → b ≤ length s → b ≡ a + length w
  position h l = omega (arith, between)

-- what is found, from the answer; the last argument goes on
pub tells-found : {C : Type 0} (p : Parsed Condition) (s : List ℕ) (at : ℕ) (o : List ℕ) (n : ℕ) (q : List ℕ) (k m : ℕ) → Tells p s at o n q (Some (m, k))
    → ((c : Condition) → p ≡ found c (drop k s) → Stored c at o n q m → C) → C
tells-found (found c t) s at o n q k m h g = g c (ap (found c) h.0) h.1
tells-found misspelled s at o n q k m h g = absurd h

pub tells-not : (p : Parsed Condition) (s : List ℕ) (at : ℕ) (o : List ℕ) (n : ℕ) (q : List ℕ) → Tells p s at o n q None → p ≡ misspelled
tells-not (found c t) s at o n q h = absurd h
tells-not misspelled s at o n q h = refl

found-tells : (p : Parsed Condition) (s : List ℕ) (at : ℕ) (o : List ℕ) (n : ℕ) (q : List ℕ) (k m : ℕ) (c : Condition) → p ≡ found c (drop k s) → Stored c at o n q m → Tells p s at o n q (Some (m, k))
found-tells p s at o n q k m c e h = rw e (refl, h)

not-tells : (p : Parsed Condition) (s : List ℕ) (at : ℕ) (o : List ℕ) (n : ℕ) (q : List ℕ) → p ≡ misspelled → Tells p s at o n q None
not-tells p s at o n q e = rw e tt

-- what every answer keeps: the count grows, by no more than the text that was read
pub record Bounds (s : List ℕ) (at n k m : ℕ) : Type 0 where
  pub more : n < m
  pub behind : m + at ≤ n + k
  pub within : m + at ≤ n + length s

pub bounds : (s : List ℕ) (at : ℕ) (o : List ℕ) (n : ℕ) (q : List ℕ) (k m : ℕ) → Reads s at o n q (Some (m, k)) → Bounds s at n k m
bounds s at o n q k m i =
    tells-found (parse_condition (length s - at) (drop at s)) s at o n q k m (i (length s - at) (le_refl (length s - at))) λ c e h.
    let b = beyond s (spell_condition c) at k (condition-sound (length s - at) (drop at s) c (drop k s) e).0 in
    let p = parts-few c in
    let d = b (omega arith) in
    let g = h.counted in
    record { more = omega arith; behind = omega arith; within = omega arith }

pub same-room : (s : List ℕ) (at : ℕ) (o : List ℕ) (n : ℕ) (q : List ℕ) (k m : ℕ) → Reads s at o n q (Some (m, k)) → length q ≡ length o
same-room s at o n q k m i =
    tells-found (parse_condition (length s - at) (drop at s)) s at o n q k m (i (length s - at) (le_refl (length s - at))) λ c e h. ap length h.text ∙ length-sets o n (words c n at)

module _ (s : List ℕ) (at : ℕ) (o : List ℕ) (n : ℕ) where
  -- an atom
  pub leaf-found : (k : ℕ) (a : Atom) (q : List ℕ) → parse_atom (drop at s) ≡ found a (drop k s) → k ≤ length s → q ≡ set o n (word 0 0 at k)
      → Tells (parse_leaf (drop at s)) s at o n q (Some (n + 1, k))
  unfolding parse_leaf words parts spell_condition
  leaf-found k a q e l f =
      let z : k ≡ at + length (spell_atom a) = position s (spell_atom a) at k (atom-sound (drop at s) a (drop k s) e).0 (atom-longer a) l in
      found-tells (parse_leaf (drop at s)) s at o n q k (n + 1) (atom a) (rw e) (record { text = f ∙ ap (λ (x : ℕ). set o n (word 0 0 at x)) z; counted = refl })

  pub leaf-not : (q : List ℕ) → parse_atom (drop at s) ≡ misspelled → Tells (parse_leaf (drop at s)) s at o n q None
  unfolding parse_leaf
  leaf-not q e = not-tells (parse_leaf (drop at s)) s at o n q (rw e)

  -- a unary operator and its condition
  pub unary-not : (q : List ℕ) → coded unary_code (parse_prefix (drop at s)) ≡ misspelled → ReadsBy (λ p. parse_unary p (drop at s)) s at o n q None
  unfolding parse_unary
  unary-not q e f h = not-tells (parse_unary (parse_condition f) (drop at s)) s at o n q (rw (coded-not unary_code (parse_prefix (drop at s)) e))

  module _ (code k : ℕ) (e : coded unary_code (parse_prefix (drop at s)) ≡ found code (drop k s)) where
    pub prefix-beyond : (at < k) × (at < length s)
    prefix-beyond =
        coded-inv unary_code (parse_prefix (drop at s)) code (drop k s) e λ p i _.
        let g = prefix-longer p in
        let b = beyond s (prefix p) at k (prefix-sound (drop at s) p (drop k s) i) g in
        omega arith

    pub operand-ready : Ready s at o n → Ready s k o n
    operand-ready r = let f = r.few in let g = prefix-beyond in record { short = r.short; few = omega arith; room = r.room }

    pub operand-fits : Ready s at o n → (q : List ℕ) (next m : ℕ) → Reads s k o n q (Some (m, next)) → m ≤ most_bytes
    operand-fits r q next m i = let f = r.short in let h = (operand-ready r).few in let w = bounds s k o n q next m i in omega arith

    pub operand-not : (q : List ℕ) → Reads s k o n q None → ReadsBy (λ p. parse_unary p (drop at s)) s at o n q None
    unfolding parse_unary
    operand-not q i f h =
        coded-inv unary_code (parse_prefix (drop at s)) code (drop k s) e λ p j _.
        let g = prefix-beyond in
        not-tells (parse_unary (parse_condition f) (drop at s)) s at o n q (rw (j, tells-not (parse_condition f (drop k s)) s k o n q (i f (omega arith))))

    pub unary-found : (q q₁ : List ℕ) (next m : ℕ) → Reads s k o n q (Some (m, next)) → next ≤ length s → q₁ ≡ set q m (word code 0 at next)
        → ReadsBy (λ p. parse_unary p (drop at s)) s at o n q₁ (Some (m + 1, next))
    unfolding parse_unary words parts
    unary-found q q₁ next m i r t f h =
        coded-inv unary_code (parse_prefix (drop at s)) code (drop k s) e λ p j x.
        let g = prefix-beyond in
        tells-found (parse_condition f (drop k s)) s k o n q next m (i f (omega arith)) λ c y z.
        let e₁ = (condition-sound f (drop k s) c (drop next s) y).0 in
        let l = parts-few c in
        let d = beyond s (spell_condition c) k next e₁ (omega arith) in
        let w : k ≡ at + length (prefix p) = position s (prefix p) at k (prefix-sound (drop at s) p (drop k s) j) (prefix-longer p) (omega arith) in
        let w₁ : next ≡ at + length (spell_condition (unary p c)) = position s (spell_condition c) k next e₁ (omega arith) r ∙ omega (arith, unary-length p c) in
        let v = words-length c n k in
        let u : m ≡ n + length (words c n k) = z.counted ∙ rw v in
        found-tells (parse_unary (parse_condition f) (drop at s)) s at o n q₁ next (m + 1) (unary p c) (rw (j, y))
        (record {
          text = t ∙ rw (z.text, u, ← x, ← w, ← w₁) (sets-append (words c n k) (word (unary_code p) 0 at next ∷ []) o n);
          counted = rw (length-append, z.counted) (omega arith);
        })

opening-of-longer : (b : Bracket) → 0 < length (opening_of b)
opening-of-longer bracket.Round = omega arith
opening-of-longer bracket.Some = omega arith
opening-of-longer bracket.All = omega arith

closing-of-longer : (b : Bracket) → 0 < length (closing_of b)
closing-of-longer bracket.Round = omega arith
closing-of-longer bracket.Some = omega arith
closing-of-longer bracket.All = omega arith

-- the words of two conditions and of their operator, one after the other
sets-three : (a b : List ℕ) (x : ℕ) (o : List ℕ) (n : ℕ) → set (sets (sets o n a) (n + length a) b) (n + length a + length b) x ≡ sets o n (a ++ (b ++ x ∷ []))
sets-three a b x o n = sets-append b (x ∷ []) (sets o n a) (n + length a) ∙ sets-append a (b ++ x ∷ []) o n

-- what a binary operator's word asks, after m parts of its first condition and m₁ of both
pub record Room (m m₁ : ℕ) (q₁ : List ℕ) : Type 0 where
  pub some : 0 < m
  pub left : m - 1 ≤ most_bytes
  pub fits : m₁ ≤ most_bytes
  pub room : length q₁ ≡ most_parts

-- a binary operator and its conditions
module _ (s : List ℕ) (at first : ℕ) (b : Bracket) (o : List ℕ) (n : ℕ) (from : drop at s ≡ opening_of b ++ drop first s) where
  pub first-beyond : at < first
  first-beyond = let g = opening-of-longer b in omega (arith, beyond s (opening_of b) at first from g)

  pub first-ready : Ready s at o n → Ready s first o n
  first-ready r = let f = r.few in let g = first-beyond in record { short = r.short; few = omega arith; room = r.room }

  pub first-not : (q : List ℕ) → Reads s first o n q None → ReadsBy (λ p. parse_binary b p (drop first s)) s at o n q None
  unfolding parse_binary
  first-not q i f h =
      let g = first-beyond in
      not-tells (parse_binary b (parse_condition f) (drop first s)) s at o n q (rw (tells-not (parse_condition f (drop first s)) s first o n q (i f (omega arith))))

  module _ (k m : ℕ) (q : List ℕ) (i : Reads s first o n q (Some (m, k))) where
    pub middle-not : coded binary_code (parse_middle b (drop k s)) ≡ misspelled → ReadsBy (λ p. parse_binary b p (drop first s)) s at o n q None
    unfolding parse_binary
    middle-not e f h =
        let g = first-beyond in
        tells-found (parse_condition f (drop first s)) s first o n q k m (i f (omega arith)) λ c y _.
        not-tells (parse_binary b (parse_condition f) (drop first s)) s at o n q (rw (y, coded-not binary_code (parse_middle b (drop k s)) e))

    module _ (code second : ℕ) (e : coded binary_code (parse_middle b (drop k s)) ≡ found code (drop second s)) where
      pub middle-beyond : k < second
      middle-beyond =
          coded-inv binary_code (parse_middle b (drop k s)) code (drop second s) e λ p j _.
          let l = middle-sound b (drop k s) p (drop second s) j in
          let w : length (middle p) ≡ 3 = ap length l.1.joins in
          let d = beyond s (middle p) k second l.0 (omega arith) in
          omega arith

      pub second-beyond : at < second
      second-beyond = let w = bounds s first o n q k m i in let d = middle-beyond in let g = first-beyond in omega arith

      pub second-ready : Ready s at o n → Ready s second q m
      second-ready r =
          let f = r.few in
          let w = bounds s first o n q k m i in
          let d = middle-beyond in
          let g = first-beyond in
          record { short = r.short; few = omega arith; room = same-room s first o n q k m i ∙ r.room }

      pub second-not : (q₁ : List ℕ) → Reads s second q m q₁ None → ReadsBy (λ p. parse_binary b p (drop first s)) s at o n q₁ None
      unfolding parse_binary
      second-not q₁ j f h =
          let g = first-beyond in
          let d = middle-beyond in
          let w = bounds s first o n q k m i in
          tells-found (parse_condition f (drop first s)) s first o n q k m (i f (omega arith)) λ c y _.
          coded-inv binary_code (parse_middle b (drop k s)) code (drop second s) e λ p z _.
          not-tells (parse_binary b (parse_condition f) (drop first s)) s at o n q₁ (rw (y, z, tells-not (parse_condition f (drop second s)) s second q m q₁ (j f (omega arith))))

      module _ (k₁ m₁ : ℕ) (q₁ : List ℕ) (j : Reads s second q m q₁ (Some (m₁, k₁))) where
        pub both-fit : Ready s at o n → Room m m₁ q₁
        both-fit r =
            let f = r.short in
            let z = second-ready r in
            let h = z.few in
            let w = bounds s first o n q k m i in
            let v = bounds s second q m q₁ k₁ m₁ j in
            record { some = omega arith; left = omega arith; fits = omega arith; room = same-room s second q m q₁ k₁ m₁ j ∙ z.room }

        pub closing-not : parse_word (closing_of b) (drop k₁ s) ≡ misspelled → ReadsBy (λ p. parse_binary b p (drop first s)) s at o n q₁ None
        unfolding parse_binary
        closing-not x f h =
            let g = first-beyond in
            let d = middle-beyond in
            let w = bounds s first o n q k m i in
            tells-found (parse_condition f (drop first s)) s first o n q k m (i f (omega arith)) λ c y _.
            coded-inv binary_code (parse_middle b (drop k s)) code (drop second s) e λ p z _.
            tells-found (parse_condition f (drop second s)) s second q m q₁ k₁ m₁ (j f (omega arith)) λ c₁ y₁ _.
            not-tells (parse_binary b (parse_condition f) (drop first s)) s at o n q₁ (rw (y, z, y₁, x))

        pub binary-found : (q₂ : List ℕ) (next : ℕ) → parse_word (closing_of b) (drop k₁ s) ≡ found tt (drop next s) → next ≤ length s → q₂ ≡ set q₁ m₁ (word code (m - 1) at next)
            → ReadsBy (λ p. parse_binary b p (drop first s)) s at o n q₂ (Some (m₁ + 1, next))
        unfolding parse_binary words parts
        binary-found q₂ next x r t f h =
            let g = first-beyond in
            let d = middle-beyond in
            let w = bounds s first o n q k m i in
            tells-found (parse_condition f (drop first s)) s first o n q k m (i f (omega arith)) λ c y v.
            coded-inv binary_code (parse_middle b (drop k s)) code (drop second s) e λ p z a.
            tells-found (parse_condition f (drop second s)) s second q m q₁ k₁ m₁ (j f (omega arith)) λ c₁ y₁ v₁.
            let l = middle-sound b (drop k s) p (drop second s) z in
            let e₁ = (condition-sound f (drop first s) c (drop k s) y).0 in
            let e₂ = (condition-sound f (drop second s) c₁ (drop k₁ s) y₁).0 in
            let n₀ = parts-few c in
            let d₀ = beyond s (spell_condition c) first k e₁ (omega arith) in
            let n₁ = parts-few c₁ in
            let d₁ = beyond s (spell_condition c₁) second k₁ e₂ (omega arith) in
            let e₃ = skip-sound (closing_of b) (drop k₁ s) x in
            let d₂ = beyond s (closing_of b) k₁ next e₃ (closing-of-longer b) in
            let u₁ : second ≡ k + length (middle p) = position s (middle p) k second l.0 (omega (arith, ap length l.1.joins)) (omega arith) in
            let u₂ : k ≡ first + length (spell_condition c) = position s (spell_condition c) first k e₁ (omega arith) (omega arith) in
            let u₃ : first ≡ at + length (opening p) = position s (opening_of b) at first from (opening-of-longer b) (omega arith) ∙ rw l.1.opens in
            let u₄ : second ≡ at + length (opening p) + length (spell_condition c) + length (middle p) = u₁ ∙ rw (u₂, u₃) in
            let u₅ : k₁ ≡ second + length (spell_condition c₁) = position s (spell_condition c₁) second k₁ e₂ (omega arith) (omega arith) in
            let u₆ : next ≡ k₁ + length (closing p) = position s (closing_of b) k₁ next e₃ (closing-of-longer b) r ∙ rw l.1.closes in
            let u₇ : next ≡ at + length (spell_condition (binary p c c₁)) = omega (arith, binary-length p c c₁) in
            let v₂ : m ≡ n + length (words c n first) = v.counted ∙ rw (words-length c n first) in
            let v₃ : m₁ ≡ m + length (words c₁ m second) = v₁.counted ∙ rw (words-length c₁ m second) in
            found-tells (parse_binary b (parse_condition f) (drop first s)) s at o n q₂ next (m₁ + 1) (binary p c c₁) (rw (y, z, y₁, x))
            (record {
              text = text c c₁ p v v₁ a u₃ u₄ u₇ v₂ v₃;
              counted = rw (length-append, length-append, v₁.counted, v.counted) (omega arith);
            })
          where
            text : (c c₁ : Condition) (p : Binary) → Stored c first o n q m → Stored c₁ second q m q₁ m₁ → binary_code p ≡ code → first ≡ at + length (opening p)
                → second ≡ at + length (opening p) + length (spell_condition c) + length (middle p) → next ≡ at + length (spell_condition (binary p c c₁))
                → m ≡ n + length (words c n first) → m₁ ≡ m + length (words c₁ m second) → q₂ ≡ sets o n (words (binary p c c₁) n at)
            text c c₁ p v v₁ a u₃ u₄ u₇ v₂ v₃ =
                t
                ∙ rw (v₁.text, v₃, v.text, ← a, ← u₄, ← u₃, ← u₇, ← v.counted)
                (ap (λ (z : ℕ). set (sets (sets o n (words c n first)) z (words c₁ m second)) (z + length (words c₁ m second)) (word (binary_code p) (m - 1) at next)) v₂
                ∙ sets-three (words c n first) (words c₁ m second) (word (binary_code p) (m - 1) at next) o n)

-- nothing is left to read
pub none_left : (s : List ℕ) (at : ℕ) (o : List ℕ) (n : ℕ) (q : List ℕ) → length s ≤ at → Reads s at o n q None
unfolding parse_condition
none_left s at o n q h zero _ = tt
none_left s at o n q h (suc f) _ = rw (at-end s at h) tt

-- what stands at the head picks the reader
pub headed : (s : List ℕ) (at : ℕ) (o : List ℕ) (n : ℕ) (q : List ℕ) (r : Option (ℕ × ℕ)) (p : (List ℕ → Parsed Condition) → Parsed Condition) → at < length s
    → ((g : List ℕ → Parsed Condition) → by_head g (drop at s) ≡ p g) → ReadsBy p s at o n q r → Reads s at o n q r
unfolding parse_condition
headed s at o n q r p h e i zero l = absurd (omega arith)
headed s at o n q r p h e i (suc f) l = rw (e (parse_condition f)) (i f (omega arith))

module _ (s : List ℕ) (at : ℕ) (h : at < length s) where
  pub head-leaf : small (get_or s at 0) ≡ true → (g : List ℕ → Parsed Condition) → by_head g (drop at s) ≡ parse_leaf (drop at s)
  head-leaf e g = rw (at_byte s at h, e)

  pub head-bracketed : small (get_or s at 0) ≡ false → (g : List ℕ → Parsed Condition) → by_head g (drop at s) ≡ parse_bracketed g (drop at s)
  head-bracketed e g = rw (at_byte s at h, e)

-- a bracket, or a unary operator
module _ (s : List ℕ) (at : ℕ) (o : List ℕ) (n : ℕ) (q : List ℕ) (r : Option (ℕ × ℕ)) where
  pub by-bracket : (b : Bracket) (k : ℕ) → parse_opening (drop at s) ≡ found b (drop k s) → ReadsBy (λ p. parse_binary b p (drop k s)) s at o n q r
      → ReadsBy (λ p. parse_bracketed p (drop at s)) s at o n q r
  unfolding parse_bracketed
  by-bracket b k e i f l = rw e (i f l)

  pub by-unary : parse_opening (drop at s) ≡ misspelled → ReadsBy (λ p. parse_unary p (drop at s)) s at o n q r → ReadsBy (λ p. parse_bracketed p (drop at s)) s at o n q r
  unfolding parse_bracketed
  by-unary e i f l = rw e (i f l)
