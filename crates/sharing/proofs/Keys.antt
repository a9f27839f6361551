-- Two parts have one key exactly where they are spelled alike, so looking a key up among those of the first occurrences finds the number.
-- Assumes nothing.
use mathlib.Core.Path.{◌≡◌, refl, sym, ap, ◌∙◌, subst}
use mathlib.Core.List.{List, [], ◌∷◌, ◌++◌, append_assoc, append-nil}
use mathlib.Core.Logic.{◌↔◌}
use Prim.Native.Nat.{ℕ, ◌≤◌, ◌<◌}
use native.Mathlib.Decide.{dec_lt}
use native.Mathlib.Omega.{arith}
use lib.ListN.{length, length-append}
use lib.Seq.{get_or-append_seam}
use Rattle.condition.specs.declared.Atom.TheVariants.{True}
use Rattle.condition.specs.Condition.{Condition, atom, unary, binary, spell_condition}
use Rattle.condition.specs.Words.{unary_code, binary_code}
use Rattle.table.specs.Rules.{one, two}
use Rattle.table.proofs.Rules.{operation-back}
use Rattle.sharing.specs.Sharing.{Alike, part, number_of, firsts_after, firsts}
use Rattle.sharing.specs.Keys.{Known, operator, key_of, Operands, Ready, Numbered, Before, Postfix, Ordered}
use Rattle.sharing.proofs.Spellings.{alike-equal, unary-alike, binary-alike}
use Rattle.sharing.proofs.Firsts.{OneEach, number-right, number-only, number-alike, number-stays, number-new, part_stays, firsts-known, firsts-new, firsts-begin, firsts-one-each}

-- ---- keys

module _ (ds : List Condition) where
  key-same : (c d : Condition) → Ready ds c → Ready ds d → key_of ds c ≡ key_of ds d → Alike c d
  unfolding spell_condition
  key-same (atom a) (atom b) x y e = cc
  key-same (atom a) (unary o p) x y e = let z : ◌≡◌ {A = ℕ} 0 1 = cc in absurd (omega arith)
  key-same (atom a) (binary o p q) x y e = let z : ◌≡◌ {A = ℕ} 0 1 = cc in absurd (omega arith)
  key-same (unary o p) (atom b) x y e = let z : ◌≡◌ {A = ℕ} 0 1 = cc in absurd (omega arith)
  key-same (unary o p) (unary o' p') x y e =
      let f : o ≡ o' = cc (operation-back (one o), operation-back (one o')) in
      let g : number_of ds p ≡ number_of ds p' = cc in
      (unary-alike o o' p p' x.valid y.valid).1 (f, number-alike ds p p' x.operands g)
  key-same (unary o p) (binary o' p' q') x y e = let z : ◌≡◌ {A = ℕ} 0 1 = cc (operation-back (one o), operation-back (two o')) in absurd (omega arith)
  key-same (binary o p q) (atom b) x y e = let z : ◌≡◌ {A = ℕ} 0 1 = cc in absurd (omega arith)
  key-same (binary o p q) (unary o' p') x y e = let z : ◌≡◌ {A = ℕ} 0 1 = cc (operation-back (two o), operation-back (one o')) in absurd (omega arith)
  key-same (binary o p q) (binary o' p' q') x y e =
      let f : o ≡ o' = cc (operation-back (two o), operation-back (two o')) in
      let g : number_of ds p ≡ number_of ds p' = cc in
      let h : number_of ds q ≡ number_of ds q' = cc in
      (binary-alike o o' p p' q q' x.valid y.valid).1 (f, number-alike ds p p' x.operands.0 g, number-alike ds q q' x.operands.1 h)

  pub key-alike : (c d : Condition) → Ready ds c → Ready ds d → (key_of ds c ≡ key_of ds d) ↔ Alike c d
  key-alike c d x y = (key-same c d x y, λ a. ap (key_of ds) (alike-equal c d x.valid y.valid a))

  -- looked up among the keys of the list: found, it has that number; not found, it is new
  module _ (n : Numbered ds) (c : Condition) (x : Ready ds c) where
    pub key-found : (i : ℕ) → i < length ds → key_of ds (part ds i) ≡ key_of ds c → number_of ds c ≡ i
    key-found i l e =
        let a = key-same (part ds i) c (n.ready i l) x e in
        number-only ds c i (record {
          within = omega arith;
          before = λ j m b. let h = n.distinct j i (omega arith) l (b ∙ sym a) in omega arith;
          found = λ _. a;
        })

    pub key-none : ((i : ℕ) → i < length ds → key_of ds (part ds i) ≡ key_of ds c → ⊥) → length ds ≤ number_of ds c
    key-none f =
        let no : ¬ (number_of ds c < length ds) =
        λ l. f (number_of ds c) l ((key-alike (part ds (number_of ds c)) c (n.ready (number_of ds c) l) x).1 ((number-right ds c).found l)) in
        omega arith

  -- keys stay while the list grows
  pub key-stays : (es : List Condition) (c : Condition) → Operands (Known ds) c → key_of (ds ++ es) c ≡ key_of ds c
  key-stays es (atom a) k = refl
  key-stays es (unary o p) k = ap (λ (n : ℕ). operator (unary_code o) n n) (number-stays ds es p k)
  key-stays es (binary o p q) (k, l) = rw (number-stays ds es p k, number-stays ds es q l)

-- ---- going through parts

pub operands-map : (X Y : Condition → Type 0) → ((p : Condition) → X p → Y p) → (c : Condition) → Operands X c → Operands Y c
operands-map X Y f (atom a) k = tt
operands-map X Y f (unary o p) k = f p k
operands-map X Y f (binary o p q) (k, l) = (f p k, f q l)

pub postfix-front : (ps qs : List Condition) → Postfix (ps ++ qs) → Postfix ps
postfix-front ps qs w = record {
  valid = λ k l. rw (part_stays ps qs k l) at (w.valid k (omega (arith, length-append ps qs)));
  earlier = λ k l.
      operands-map (Before (ps ++ qs) k) (Before ps k) (λ p (j, b, e). (j, b, sym (part_stays ps qs j (omega arith)) ∙ e)) (part ps k)
      (rw (part_stays ps qs k l) at (w.earlier k (omega (arith, length-append ps qs))));
}

pub firsts-numbered : (ps : List Condition) → Postfix ps → Numbered (firsts ps)
firsts-numbered ps w = record { distinct = o.distinct; ready = ready }
  where
    o : OneEach ps (firsts ps)
    o = firsts-one-each ps

    ready : (i : ℕ) → i < length (firsts ps) → Ready (firsts ps) (part (firsts ps) i)
    ready i l =
        let (k, m, e) = o.from i l in
        rw (← e) (record {
          valid = w.valid k m;
          operands = operands-map _ (Known (firsts ps)) (λ p (j, b, f). rw f at (o.known j (omega arith))) (part ps k) (w.earlier k m);
        })

-- the next part: it can be given its key, and looking that up says what becomes of the first occurrences
module _ (ps : List Condition) (c : Condition) (qs : List Condition) (w : Postfix (ps ++ c ∷ qs)) where
  pub part-ready : Ready (firsts ps) c
  part-ready =
      let l : length ps < length (ps ++ c ∷ qs) = omega (arith, length-append ps (c ∷ qs)) in
      let e = get_or-append_seam ps c qs (atom True) in
      record {
        valid = rw e at (w.valid (length ps) l);
        operands =
            operands-map _ (Known (firsts ps)) (λ p (j, b, f). rw (sym (part_stays ps (c ∷ qs) j b) ∙ f) at ((firsts-one-each ps).known j b)) c
            (rw e at (w.earlier (length ps) l));
      }

  numbered : Numbered (firsts ps)
  numbered = firsts-numbered ps (postfix-front ps (c ∷ qs) w)

  pub step-found : (i : ℕ) → i < length (firsts ps) → key_of (firsts ps) (part (firsts ps) i) ≡ key_of (firsts ps) c
      → (firsts (ps ++ c ∷ []) ≡ firsts ps) × (number_of (firsts (ps ++ c ∷ [])) c ≡ i)
  step-found i l e =
      let n = key-found (firsts ps) numbered c part-ready i l e in
      let h = firsts-known ps c (omega arith) in
      (h, ap (λ (ds : List Condition). number_of ds c) h ∙ n)

  pub step-new : ((i : ℕ) → i < length (firsts ps) → key_of (firsts ps) (part (firsts ps) i) ≡ key_of (firsts ps) c → ⊥)
      → (firsts (ps ++ c ∷ []) ≡ firsts ps ++ c ∷ []) × (number_of (firsts (ps ++ c ∷ [])) c ≡ length (firsts ps))
  step-new f =
      let l = key-none (firsts ps) numbered c part-ready f in
      let h = firsts-new ps c l in
      (h, ap (λ (ds : List Condition). number_of ds c) h ∙ number-new (firsts ps) c l)

-- keys already given stay
pub keys_kept : (ps qs : List Condition) → Postfix ps → (i : ℕ) → i < length (firsts ps)
    → key_of (firsts (ps ++ qs)) (part (firsts (ps ++ qs)) i) ≡ key_of (firsts ps) (part (firsts ps) i)
keys_kept ps qs w i l =
    let (es, e) = firsts-begin ps qs in
    rw (e, part_stays (firsts ps) es i l) (key-stays (firsts ps) es (part (firsts ps) i) ((firsts-numbered ps w).ready i l).operands)

-- the first occurrences come after their operands
module _ (ds : List Condition) (c : Condition) (o : Ordered ds) (k : Operands (Known ds) c) where
  ordered-one : Ordered (ds ++ c ∷ [])
  ordered-one i l = elim (dec_lt i (length ds)) [
    | yes m ↦
        rw (part_stays ds (c ∷ []) i m)
        (operands-map (λ p. number_of ds p < i) (λ p. number_of (ds ++ c ∷ []) p < i) (λ p b. let h : Known ds p = omega arith in omega (arith, number-stays ds (c ∷ []) p h)) (part ds i) (o i m))
    | no m ↦
        let e : i ≡ length ds = omega (arith, length-append ds (c ∷ [])) in
        rw (e, get_or-append_seam ds c [] (atom True))
        (operands-map (Known ds) (λ p. number_of (ds ++ c ∷ []) p < length ds) (λ p b. omega (arith, number-stays ds (c ∷ []) p b)) c k)
  ]

ordered-more : (ps qs : List Condition) → Postfix (ps ++ qs) → Ordered (firsts ps) → Ordered (firsts (ps ++ qs))
ordered-more ps [] w o = rw (append-nil ps) o
ordered-more ps (c ∷ qs) w o =
    subst (λ (rs : List Condition). Ordered (firsts rs)) (append_assoc ps (c ∷ []) qs)
    (ordered-more (ps ++ c ∷ []) qs (rw (append_assoc ps (c ∷ []) qs) w) (elim (dec_lt (number_of (firsts ps) c) (length (firsts ps))) [
      | yes l ↦ rw (firsts-known ps c l) o
      | no l ↦ rw (firsts-new ps c (omega arith)) (ordered-one (firsts ps) c o (part-ready ps c qs w).operands)
    ]))

pub firsts-ordered : (ps : List Condition) → Postfix ps → Ordered (firsts ps)
unfolding firsts_after
firsts-ordered ps w = ordered-more [] ps w (λ k l. absurd (omega arith))
