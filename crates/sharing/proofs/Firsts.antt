-- Numbers by first occurrence: they are right, no two of the first occurrences are alike, and none that was given changes. Assumes nothing.
use mathlib.Core.Path.{◌≡◌, refl, sym, ap, ◌∙◌}
use mathlib.Core.Bool.{Bool, true, false, cond}
use mathlib.Core.List.{List, [], ◌∷◌, ◌++◌, append_assoc, append-nil}
use mathlib.Core.Logic.{◌⊎◌, inl, inr, ◌↔◌, ⊎_elim}
use Prim.Native.Nat.{ℕ, zero, suc, ◌+◌, ◌-◌, ◌≤◌, ◌<◌}
use native.Mathlib.Omega.{arith}
use native.Mathlib.Decide.{dec_lt}
use native.Mathlib.Nat.{not-suc-le-zero, le_of_suc-le-suc}
use lib.ListN.{length, length-append, get_or-append}
use lib.Seq.{get_or-append_seam}
use borrow.Author.Tests.{lt-ltb, le-ltb}
use Rattle.base.proofs.Bools.{clash}
use Rattle.condition.specs.Condition.{Condition, atom, spell_condition}
use Rattle.condition.specs.declared.Atom.TheVariants.{True}
use Rattle.sharing.specs.Sharing.{Alike, spelled_alike, part, number_of, with_one, firsts_after, firsts}
use Rattle.sharing.specs.Keys.{Known, Distinct}
use Rattle.sharing.proofs.Spellings.{same-equal, equal-same}

-- ---- numbers

-- n is the number of c
pub record IsNumber (ds : List Condition) (c : Condition) (n : ℕ) : Type 0 where
  pub within : n ≤ length ds
  pub before : (j : ℕ) → j < n → Alike (part ds j) c → ⊥
  pub found : n < length ds → Alike (part ds n) c

pub number-right : (ds : List Condition) (c : Condition) → IsNumber ds c (number_of ds c)
unfolding number_of
number-right [] c = record { within = omega arith; before = λ j l. absurd (not-suc-le-zero l); found = λ l. absurd (not-suc-le-zero l) }
number-right (d ∷ ds) c = go (spelled_alike d c) refl (number-right ds c)
  where
    go : (b : Bool) → spelled_alike d c ≡ b → IsNumber ds c (number_of ds c) → IsNumber (d ∷ ds) c (cond b 0 (suc (number_of ds c)))
    go true e i = record { within = omega arith; before = λ j l. absurd (not-suc-le-zero l); found = λ l. same-equal (spell_condition d) (spell_condition c) e }
    go false e i = record { within = omega (arith, i.within); before = before; found = λ l. i.found (le_of_suc-le-suc l) }
      where
        before : (j : ℕ) → j < suc (number_of ds c) → Alike (part (d ∷ ds) j) c → ⊥
        before zero l a = clash (rw a (equal-same (spell_condition c))) e
        before (suc j) l a = i.before j (le_of_suc-le-suc l) a

-- a list has one number for each condition, so what finds a right one finds this one
pub number-only : (ds : List Condition) (c : Condition) (n : ℕ) → IsNumber ds c n → number_of ds c ≡ n
number-only ds c n i = let a = less (number_of ds c) n (number-right ds c) i in let b = less n (number_of ds c) i (number-right ds c) in omega arith
  where
    less : (n m : ℕ) → IsNumber ds c n → IsNumber ds c m → ¬ (n < m)
    less n m i j l = j.before n l (i.found (omega (arith, j.within)))

-- conditions spelled alike have one number, and those of which one is spelled as some of the list have it only then
pub alike-number : (ds : List Condition) (c d : Condition) → Alike c d → number_of ds c ≡ number_of ds d
alike-number ds c d e =
    let r = number-right ds d in
    number-only ds c (number_of ds d) (record { within = r.within; before = λ j l a. r.before j l (a ∙ e); found = λ l. r.found l ∙ sym e })

pub number-alike : (ds : List Condition) (c d : Condition) → Known ds c → number_of ds c ≡ number_of ds d → Alike c d
number-alike ds c d l e =
    let m : number_of ds d < length ds = omega arith in
    let f : Alike (part ds (number_of ds c)) c = (number-right ds c).found l in
    let g : Alike (part ds (number_of ds d)) d = (number-right ds d).found m in
    sym f ∙ ap (λ (n : ℕ). spell_condition (part ds n)) e ∙ g

-- a list that grows keeps its numbers; what it had none for is new
pub part_stays : (ds es : List Condition) (k : ℕ) → k < length ds → part (ds ++ es) k ≡ part ds k
part_stays ds es k l = get_or-append ds es (atom True) k l

module _ (ds es : List Condition) (c : Condition) where
  pub number-stays : Known ds c → number_of (ds ++ es) c ≡ number_of ds c
  number-stays l =
      let r = number-right ds c in
      let g = length-append ds es in
      number-only (ds ++ es) c (number_of ds c) (record {
        within = omega arith;
        before = λ j m a. r.before j m (sym (ap spell_condition (part_stays ds es j (omega arith))) ∙ a);
        found = λ m. ap spell_condition (part_stays ds es (number_of ds c) l) ∙ r.found l;
      })

  pub known-stays : Known ds c → Known (ds ++ es) c
  known-stays l = omega (arith, number-stays l, length-append ds es)

pub number-new : (ds : List Condition) (c : Condition) → length ds ≤ number_of ds c → number_of (ds ++ c ∷ []) c ≡ length ds
number-new ds c l =
    let r = number-right ds c in
    number-only (ds ++ c ∷ []) c (length ds) (record {
      within = omega (arith, length-append ds (c ∷ []));
      before = λ j m a. r.before j (omega arith) (sym (ap spell_condition (part_stays ds (c ∷ []) j m)) ∙ a);
      found = λ _. ap spell_condition (get_or-append_seam ds c [] (atom True));
    })

-- ---- one condition more

module _ (ds : List Condition) (c : Condition) where
  with-known : Known ds c → with_one ds c ≡ ds
  with-known l = rw (lt-ltb (number_of ds c) (length ds) l)

  with-new : length ds ≤ number_of ds c → with_one ds c ≡ ds ++ c ∷ []
  with-new l = rw (le-ltb (number_of ds c) (length ds) l)

firsts_more : (ds ps qs : List Condition) → firsts_after ds (ps ++ qs) ≡ firsts_after (firsts_after ds ps) qs
unfolding firsts_after
firsts_more ds [] qs = refl
firsts_more ds (c ∷ ps) qs = firsts_more (with_one ds c) ps qs

-- the step of a loop: one that isn't new adds none, one that is adds itself
module _ (ps : List Condition) (c : Condition) where
  pub firsts-known : Known (firsts ps) c → firsts (ps ++ c ∷ []) ≡ firsts ps
  unfolding firsts_after
  firsts-known l = firsts_more [] ps (c ∷ []) ∙ with-known (firsts ps) c l

  pub firsts-new : length (firsts ps) ≤ number_of (firsts ps) c → firsts (ps ++ c ∷ []) ≡ firsts ps ++ c ∷ []
  unfolding firsts_after
  firsts-new l = firsts_more [] ps (c ∷ []) ∙ with-new (firsts ps) c l

-- ---- the first occurrences

-- ds has one of each spelling of ps
pub record OneEach (ps ds : List Condition) : Type 0 where
  pub distinct : Distinct ds
  pub known : (k : ℕ) → k < length ps → Known ds (part ps k)
  pub from : (i : ℕ) → i < length ds → (k : ℕ) × (k < length ps) × (part ps k ≡ part ds i)

after-begin : (ds ps : List Condition) → (es : List Condition) × (firsts_after ds ps ≡ ds ++ es)
unfolding firsts_after
after-begin ds [] = ([], sym (append-nil ds))
after-begin ds (c ∷ ps) =
    let (es, e) = after-begin (with_one ds c) ps in
    elim (dec_lt (number_of ds c) (length ds)) [
      | yes l ↦ (es, e ∙ ap (λ (x : List Condition). x ++ es) (with-known ds c l))
      | no l ↦ (c ∷ es, e ∙ ap (λ (x : List Condition). x ++ es) (with-new ds c (omega arith)) ∙ append_assoc ds (c ∷ []) es)
    ]

-- those of a longer list begin with those of a shorter one
pub firsts-begin : (ps qs : List Condition) → (es : List Condition) × (firsts (ps ++ qs) ≡ firsts ps ++ es)
firsts-begin ps qs = let (es, e) = after-begin (firsts ps) qs in (es, firsts_more [] ps qs ∙ e)

-- a place of a list with one condition more is one of the list's, or the new one
place-cases : (ds : List Condition) (c : Condition) (k : ℕ) → k < length (ds ++ c ∷ [])
    → ((k < length ds) × (part (ds ++ c ∷ []) k ≡ part ds k)) ⊎ ((k ≡ length ds) × (part (ds ++ c ∷ []) k ≡ c))
place-cases ds c k l = elim (dec_lt k (length ds)) [
  | yes m ↦ inl (m, part_stays ds (c ∷ []) k m)
  | no m ↦ let e : k ≡ length ds = omega (arith, length-append ds (c ∷ [])) in inr (e, rw e (get_or-append_seam ds c [] (atom True)))
]

module _ (ps ds : List Condition) (c : Condition) (o : OneEach ps ds) where
  one_known : Known ds c → OneEach (ps ++ c ∷ []) ds
  one_known l = record {
    distinct = o.distinct;
    known = λ k m. ⊎_elim (λ (b, e). rw e (o.known k b)) (λ (b, e). rw e l) (place-cases ps c k m);
    from = λ i m. let (k, b, e) = o.from i m in (k, omega (arith, length-append ps (c ∷ [])), part_stays ps (c ∷ []) k b ∙ e);
  }

  one-new : length ds ≤ number_of ds c → OneEach (ps ++ c ∷ []) (ds ++ c ∷ [])
  one-new l = record {
    distinct = λ i j m n a.
        ⊎_elim
        (λ (b, e). ⊎_elim (λ (d, f). o.distinct i j b d (rw (e, f) at a)) (λ (d, f). absurd (other i b (rw (e, f) at a))) (place-cases ds c j n))
        (λ (b, e). ⊎_elim (λ (d, f). absurd (other j d (sym (rw (e, f) at a)))) (λ (d, f). b ∙ sym d) (place-cases ds c j n))
        (place-cases ds c i m);
    known = λ k m.
        ⊎_elim (λ (b, e). rw e (known-stays ds (c ∷ []) (part ps k) (o.known k b))) (λ (b, e). rw e (omega (arith, number-new ds c l, length-append ds (c ∷ []))))
        (place-cases ps c k m);
    from = λ i m.
        ⊎_elim (λ (b, e). let (k, d, f) = o.from i b in (k, omega (arith, length-append ps (c ∷ [])), part_stays ps (c ∷ []) k d ∙ f ∙ sym e))
        (λ (b, e). (length ps, omega (arith, length-append ps (c ∷ [])), get_or-append_seam ps c [] (atom True) ∙ sym e))
        (place-cases ds c i m);
  }
    where
      other : (j : ℕ) → j < length ds → Alike (part ds j) c → ⊥
      other j m a = (number-right ds c).before j (omega arith) a

one_more : (ps ds : List Condition) (c : Condition) → OneEach ps ds → OneEach (ps ++ c ∷ []) (with_one ds c)
one_more ps ds c o = elim (dec_lt (number_of ds c) (length ds)) [
  | yes l ↦ rw (with-known ds c l) (one_known ps ds c o l)
  | no l ↦ let m : length ds ≤ number_of ds c = omega arith in rw (with-new ds c m) (one-new ps ds c o m)
]

one-each-after : (ps ds qs : List Condition) → OneEach ps ds → OneEach (ps ++ qs) (firsts_after ds qs)
unfolding firsts_after
one-each-after ps ds [] o = rw append-nil o
one-each-after ps ds (c ∷ qs) o = rw append_assoc at (one-each-after (ps ++ c ∷ []) (with_one ds c) qs (one_more ps ds c o))

pub firsts-one-each : (ps : List Condition) → OneEach ps (firsts ps)
firsts-one-each ps = one-each-after [] [] ps (record {
  distinct = λ i j l. absurd (not-suc-le-zero l);
  known = λ k l. absurd (not-suc-le-zero l);
  from = λ i l. absurd (not-suc-le-zero l);
})

-- two parts have one number exactly where they are spelled alike
pub numbers-alike : (ps : List Condition) (i j : ℕ) → i < length ps → j < length ps
    → (number_of (firsts ps) (part ps i) ≡ number_of (firsts ps) (part ps j)) ↔ Alike (part ps i) (part ps j)
numbers-alike ps i j l m = (
  number-alike (firsts ps) (part ps i) (part ps j) ((firsts-one-each ps).known i l),
  alike-number (firsts ps) (part ps i) (part ps j),
)

-- numbers already given stay
pub number-kept : (ps qs : List Condition) (c : Condition) → Known (firsts ps) c → number_of (firsts (ps ++ qs)) c ≡ number_of (firsts ps) c
number-kept ps qs c l = let (es, e) = firsts-begin ps qs in rw e (number-stays (firsts ps) es c l)
