-- The parts of all lines come after their operands, a line's condition is its last part, and its table is its own. Assumes nothing.
use mathlib.Core.Path.{◌≡◌, refl, sym, ap, ◌∙◌, subst}
use mathlib.Core.List.{List, [], ◌∷◌, ◌++◌, append_assoc}
use Prim.Native.Nat.{ℕ, suc, ◌+◌, ◌-◌, ◌<◌}
use native.Mathlib.Omega.{arith}
use native.Mathlib.Nat.{not-suc-le-zero}
use native.Mathlib.Decide.{dec_lt}
use lib.ListN.{length, take, drop, length-append}
use lib.Seq.{get_or-append-add, split_at}
use Rattle.condition.specs.declared.Atom.TheVariants.{True}
use Rattle.condition.specs.Condition.{Condition, atom, unary, binary, ValidCondition, parts}
use Rattle.condition.proofs.Parts.{parts-few, parts_last}
use Rattle.lines.specs.Lines.{AllValid}
use Rattle.sharing.specs.Sharing.{part, number_of, firsts, parts_of}
use Rattle.sharing.specs.Keys.{Known, Operands, Before, Postfix}
use Rattle.sharing.proofs.Spellings.{alike-equal}
use Rattle.sharing.proofs.Firsts.{part_stays, number-right, firsts-one-each}
use Rattle.sharing.proofs.Keys.{operands-map, firsts-numbered}

-- ---- operands first

-- the part at place k is valid and comes after its operands
abbrev Stands : List Condition → ℕ → Type 0
Stands ps k = ValidCondition (part ps k) × Operands (Before ps k) (part ps k)

-- more parts, each after its operands
module _ (ps qs : List Condition) (w : Postfix ps) where
  postfix-more : ((k : ℕ) → k < length qs → ValidCondition (part qs k) × Operands (Before (ps ++ qs) (length ps + k)) (part qs k)) → Postfix (ps ++ qs)
  postfix-more f = record { valid = λ k l. (both k l).0; earlier = λ k l. (both k l).1 }
    where
      early : (k : ℕ) → k < length ps → Stands (ps ++ qs) k
      early k l =
          rw (part_stays ps qs k l)
          (w.valid k l, operands-map (Before ps k) (Before (ps ++ qs) k) (λ p (j, b, e). (j, b, part_stays ps qs j (omega arith) ∙ e)) (part ps k) (w.earlier k l))

      late : (k : ℕ) → k < length qs → Stands (ps ++ qs) (length ps + k)
      late k l = rw (get_or-append-add ps qs k (atom True)) (f k l)

      both : (k : ℕ) → k < length (ps ++ qs) → Stands (ps ++ qs) k
      both k l =
          elim (dec_lt k (length ps)) [
            | yes m ↦ early k m
            | no m ↦ let e : length ps + (k - length ps) ≡ k = omega arith in rw e at (late (k - length ps) (omega (arith, length-append ps qs)))
          ]

  postfix-append : Postfix qs → Postfix (ps ++ qs)
  postfix-append v = postfix-more λ k l. (
    v.valid k l,
    operands-map (Before qs k) (Before (ps ++ qs) (length ps + k)) (λ p (j, b, e). (length ps + j, omega arith, get_or-append-add ps qs j (atom True) ∙ e))
        (part qs k) (v.earlier k l),
  )

postfix-one : (ps : List Condition) (c : Condition) → Postfix ps → ValidCondition c → Operands (Before ps (length ps)) c → Postfix (ps ++ c ∷ [])
postfix-one ps c w v b = postfix-more ps (c ∷ []) w one
  where
    one : (k : ℕ) → k < 1 → ValidCondition (part (c ∷ []) k) × Operands (Before (ps ++ c ∷ []) (length ps + k)) (part (c ∷ []) k)
    one k l =
        let z : k ≡ 0 = omega arith in
        rw z (v, operands-map (Before ps (length ps)) (Before (ps ++ c ∷ []) (length ps + 0)) (λ p (j, m, e). (j, omega arith, part_stays ps (c ∷ []) j m ∙ e)) c b)

postfix-none : Postfix []
postfix-none = record { valid = λ k l. absurd (not-suc-le-zero l); earlier = λ k l. absurd (not-suc-le-zero l) }

-- the whole condition is the last of its parts
last_of : (c : Condition) → Before (parts c) (length (parts c)) c
last_of c = (length (parts c) - 1, omega (arith, parts-few c), parts_last c)

parts-postfix : (c : Condition) → ValidCondition c → Postfix (parts c)
unfolding parts
parts-postfix (atom a) v = postfix-one [] (atom a) postfix-none v tt
parts-postfix (unary o p) v = postfix-one (parts p) (unary o p) (parts-postfix p v) v (last_of p)
parts-postfix (binary o p q) v =
    let (i, l, e) = last_of p in
    let (j, m, f) = last_of q in
    let g = length-append (parts p) (parts q) in
    rw append_assoc at (postfix-one (parts p ++ parts q) (binary o p q) (postfix-append (parts p) (parts q) (parts-postfix p v.0) (parts-postfix q v.1)) v (
      (i, omega arith, part_stays (parts p) (parts q) i l ∙ e),
      (length (parts p) + j, omega arith, get_or-append-add (parts p) (parts q) j (atom True) ∙ f),
    ))

pub lines-postfix : (cs : List Condition) → AllValid ValidCondition cs → Postfix (parts_of cs)
unfolding parts_of
lines-postfix [] v = postfix-none
lines-postfix (c ∷ cs) v = postfix-append (parts c) (parts_of cs) (parts-postfix c v.0) (lines-postfix cs v.1)

-- ---- a line

pub lines-append : (bs cs : List Condition) → parts_of (bs ++ cs) ≡ parts_of bs ++ parts_of cs
unfolding parts_of
lines-append [] cs = refl
lines-append (b ∷ bs) cs = ap (λ (x : List Condition). parts b ++ x) (lines-append bs cs) ∙ sym (append_assoc (parts b) (parts_of bs) (parts_of cs))

-- the table of a part is its own
pub part-table : (ps : List Condition) → Postfix ps → (k : ℕ) → k < length ps → part (firsts ps) (number_of (firsts ps) (part ps k)) ≡ part ps k
part-table ps w k l =
    let n = (firsts-one-each ps).known k l in
    alike-equal (part (firsts ps) (number_of (firsts ps) (part ps k))) (part ps k)
    ((firsts-numbered ps w).ready (number_of (firsts ps) (part ps k)) n).valid (w.valid k l) ((number-right (firsts ps) (part ps k)).found n)

-- the line c, after the lines bs and before the lines es
module _ (bs : List Condition) (c : Condition) (es : List Condition) where
  abbrev ps : List Condition
  ps = parts_of (bs ++ c ∷ es)

  -- where its part k stands among those of all lines
  abbrev pub place : ℕ → ℕ
  place k = length (parts_of bs) + k

  pub line-part : (k : ℕ) → k < length (parts c) → (place k < length ps) × (part ps (place k) ≡ part (parts c) k)
  unfolding parts_of
  line-part k l =
      let e = lines-append bs (c ∷ es) in
      let g = length-append (parts_of bs) (parts c ++ parts_of es) in
      let h = length-append (parts c) (parts_of es) in
      (omega (arith, ap length e), rw e (get_or-append-add (parts_of bs) (parts c ++ parts_of es) k (atom True) ∙ part_stays (parts c) (parts_of es) k l))

  -- the line is the last of its parts
  pub line-last : (place (length (parts c) - 1) < length ps) × (part ps (place (length (parts c) - 1)) ≡ c)
  line-last = let (l, e) = line-part (length (parts c) - 1) (omega (arith, parts-few c)) in (l, e ∙ parts_last c)

  module _ (v : AllValid ValidCondition (bs ++ c ∷ es)) where
    pub line-table : part (firsts ps) (number_of (firsts ps) c) ≡ c
    line-table = rw line-last.1 at (part-table ps (lines-postfix (bs ++ c ∷ es) v) (place (length (parts c) - 1)) line-last.0)

-- line j of the lines cs
module _ (cs : List Condition) (j : ℕ) (l : j < length cs) where
  abbrev c : Condition
  c = part cs j

  apart : cs ≡ take j cs ++ c ∷ drop (suc j) cs
  apart = split_at cs j (atom True) l

  pub line_known : Known (firsts (parts_of cs)) c
  line_known =
      let (b, e) = line-last (take j cs) c (drop (suc j) cs) in
      let k = (firsts-one-each (parts_of (take j cs ++ c ∷ drop (suc j) cs))).known (place (take j cs) c (drop (suc j) cs) (length (parts c) - 1)) b in
      subst (λ (x : List Condition). Known (firsts (parts_of x)) c) (sym apart) (subst (Known (firsts (parts_of (take j cs ++ c ∷ drop (suc j) cs)))) e k)

  pub line-own : AllValid ValidCondition cs → part (firsts (parts_of cs)) (number_of (firsts (parts_of cs)) c) ≡ c
  line-own v = subst (λ (x : List Condition). part (firsts (parts_of x)) (number_of (firsts (parts_of x)) c) ≡ c) (sym apart)
      (line-table (take j cs) c (drop (suc j) cs) (subst (AllValid ValidCondition) apart v))
