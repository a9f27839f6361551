-- The lists of entries by their hashes: one entry more, and going along a list. Assumes nothing.
use mathlib.Core.Path.{◌≡◌, refl, sym, ap, ◌∙◌}
use mathlib.Core.Bool.{Bool, true, false}
use mathlib.Core.List.{List}
use Prim.Native.Nat.{ℕ, zero, suc, ◌+◌, ◌-◌, ◌≤◌, ◌<◌}
use native.Mathlib.Decide.{ℕ_discrete, dec_lt}
use native.Mathlib.Numerals.{add-one}
use native.Mathlib.Omega.{arith}
use lib.Dec.{eqb}
use lib.ListN.{get_or, set, length-set}
use lib.Seq.{get_or-set_same, get_or-set_other}
use borrow.Author.Count.{below_more}
use borrow.Author.Tests.{eqb-true, eqb-false, eq-eqb, ne_eqb}
use Rattle.base.specs.Pick.{pick}
use Rattle.base.proofs.Bools.{last-or-below}
use Rattle.bits.specs.Row.{Zeros}
use Rattle.sharing.specs.Sharing.{most_tables}
use Rattle.keys.specs.Store.{key_in, Formed, lists, hash_of, latest, hash_at, Store, Keyed, Unkeyed}

-- r is the last of the first n numbers at which f is h, counted from 1, or 0
pub record Latest (f : ℕ → ℕ) (h n r : ℕ) : Type 0 where
  pub within : r ≤ n
  pub none : (i : ℕ) → r ≤ i → i < n → f i ≡ h → ⊥
  pub some : 0 < r → f (r - 1) ≡ h

latest-right : (f : ℕ → ℕ) (h n : ℕ) → Latest f h n (latest f h n)
unfolding latest
latest-right f h zero = record { within = omega arith; none = λ i a b. absurd (omega arith); some = λ a. absurd (omega arith) }
latest-right f h (suc n) = go (eqb (f n) h) refl (latest-right f h n)
  where
    go : (b : Bool) → eqb (f n) h ≡ b → Latest f h n (latest f h n) → Latest f h (suc n) (pick b (suc n) (latest f h n))
    go true e l = record { within = omega arith; none = λ i a b. absurd (omega arith); some = λ _. let z : suc n - 1 ≡ n = omega arith in rw z (eqb-true (f n) h e) }
    go false e l = record {
      within = omega (arith, l.within);
      none = λ i a b. last-or-below n (λ j. latest f h n ≤ j → f j ≡ h → ⊥) (λ _. eqb-false (f n) h e) (λ j c d. l.none j d c) i b a;
      some = l.some;
    }

latest-same : (f g : ℕ → ℕ) (h n : ℕ) → ((i : ℕ) → i < n → f i ≡ g i) → latest f h n ≡ latest g h n
unfolding latest
latest-same f g h zero e = refl
latest-same f g h (suc n) e = rw (e n (omega arith), latest-same f g h n (λ i l. e i (omega arith)))

-- no entry yet
pub store-none : {u entries links heads : List ℕ} → Zeros most_tables entries → Zeros most_tables links → Zeros lists heads → Store u entries links heads 0
unfolding latest
store-none e l h = record {
  few = omega arith;
  many = e.size;
  many_links = l.size;
  many_heads = h.size;
  formed = λ i b. absurd (omega arith);
  linked = λ i b. absurd (omega arith);
  headed = λ g b. h.zero g;
}

-- one entry more
module _ {u entries links heads : List ℕ} {count : ℕ} (s : Store u entries links heads count) (w : ℕ) (f : Formed u w) (l : count < most_tables)
    (h : ℕ) (b : h < lists) (is : h ≡ hash_of (key_in u w)) where
  abbrev more : List ℕ
  more = set entries count w

  entry_kept : (i : ℕ) → i < count → get_or more i 0 ≡ get_or entries i 0
  entry_kept i c = get_or-set_other entries count i w 0 (λ e. omega arith)

  entry_new : get_or more count 0 ≡ w
  entry_new = get_or-set_same entries count w 0 (omega (arith, s.many))

  hash-kept : (i : ℕ) → i < count → hash_at u entries i ≡ hash_at u more i
  hash-kept i c = ap (λ (x : ℕ). hash_of (key_in u x)) (sym (entry_kept i c))

  hash-new : h ≡ hash_at u more count
  hash-new = is ∙ ap (λ (x : ℕ). hash_of (key_in u x)) (sym entry_new)

  latest-kept : (g n : ℕ) → n ≤ count → latest (hash_at u entries) g n ≡ latest (hash_at u more) g n
  latest-kept g n c = latest-same (hash_at u entries) (hash_at u more) g n (λ i d. hash-kept i (omega arith))

  head_more : (g : ℕ) → g < lists → Dec (h ≡ g) → get_or (set heads h (count + 1)) g 0 ≡ latest (hash_at u more) g (suc count)
  unfolding latest
  head_more g c (yes e) =
      rw (← e, eq-eqb (hash_at u more count) h (sym hash-new), ← add-one count) (get_or-set_same heads h (count + 1) 0 (omega (arith, s.many_heads)))
  head_more g c (no n) =
      rw (ne_eqb (hash_at u more count) g (λ e. n (hash-new ∙ e))) (get_or-set_other heads h g (count + 1) 0 (λ e. n (sym e)) ∙ s.headed g c ∙ latest-kept g count (omega arith))

  pub store-more : Store u (set entries count w) (set links count (get_or heads h 0)) (set heads h (count + 1)) (count + 1)
  store-more = record {
    few = omega arith;
    many = length-set entries count w ∙ s.many;
    many_links = length-set links count (get_or heads h 0) ∙ s.many_links;
    many_heads = length-set heads h (count + 1) ∙ s.many_heads;
    formed = below_more (λ i. Formed u (get_or more i 0)) count (λ i c. rw (entry_kept i c) (s.formed i c)) (rw entry_new f);
    linked = below_more (λ i. get_or (set links count (get_or heads h 0)) i 0 ≡ latest (hash_at u more) (hash_at u more i) i) count
        (λ i c. get_or-set_other links count i (get_or heads h 0) 0 (λ e. omega arith) ∙ s.linked i c ∙ latest-kept (hash_at u entries i) i (omega arith)
        ∙ ap (λ (g : ℕ). latest (hash_at u more) g i) (hash-kept i c))
        (get_or-set_same links count (get_or heads h 0) 0 (omega (arith, s.many_links)) ∙ s.headed h b ∙ latest-kept h count (omega arith)
        ∙ ap (λ (g : ℕ). latest (hash_at u more) g count) hash-new);
    headed = λ g c. head_more g c (ℕ_discrete h g) ∙ ap (latest (hash_at u more) g) (sym (add-one count));
  }

-- no entry from p on has the key of w, and the one before p has its hash
pub record Search (u entries : List ℕ) (count w p : ℕ) : Type 0 where
  pub within : p ≤ count
  pub none : (i : ℕ) → p ≤ i → i < count → key_in u (get_or entries i 0) ≡ key_in u w → ⊥
  pub some : 0 < p → hash_at u entries (p - 1) ≡ hash_of (key_in u w)

module _ {u entries links heads : List ℕ} {count : ℕ} (s : Store u entries links heads count) (w : ℕ) where
  pub search-first : (h : ℕ) → h < lists → h ≡ hash_of (key_in u w) → Search u entries count w (get_or heads h 0)
  search-first h b is =
      let l = latest-right (hash_at u entries) h count in
      rw (s.headed h b) (record {
        within = l.within;
        none = λ i c d e. l.none i c d (ap hash_of e ∙ sym is);
        some = λ c. l.some c ∙ is;
      })

  module _ {p : ℕ} (r : Search u entries count w p) (some : 0 < p) where
    abbrev g : ℕ
    g = hash_of (key_in u w)

    place : p - 1 < count
    place = let a = r.within in omega arith

    link : get_or links (p - 1) 0 ≡ latest (hash_at u entries) g (p - 1)
    link = s.linked (p - 1) place ∙ ap (λ (h : ℕ). latest (hash_at u entries) h (p - 1)) (r.some some)

    pub search-less : get_or links (p - 1) 0 < p
    search-less = let l = (latest-right (hash_at u entries) g (p - 1)).within in omega (arith, link)

    pub search-next : (key_in u (get_or entries (p - 1) 0) ≡ key_in u w → ⊥) → Search u entries count w (get_or links (p - 1) 0)
    search-next other =
        let l = latest-right (hash_at u entries) g (p - 1) in
        rw link (record {
          within = let a = l.within in let b = place in omega arith;
          none = λ i c d e. at i c d e (dec_lt i (p - 1)) (ℕ_discrete i (p - 1));
          some = l.some;
        })
      where
        at : (i : ℕ) → latest (hash_at u entries) g (p - 1) ≤ i → i < count → key_in u (get_or entries i 0) ≡ key_in u w → Dec (i < p - 1) → Dec (i ≡ p - 1) → ⊥
        at i c d e (yes f) n = (latest-right (hash_at u entries) g (p - 1)).none i c f (ap hash_of e)
        at i c d e (no f) (yes z) = other (rw z at e)
        at i c d e (no f) (no z) = r.none i (omega arith) d e

    pub search-found : key_in u (get_or entries (p - 1) 0) ≡ key_in u w → Keyed u entries count w (p - 1)
    search-found e = record { inside = place; same = e }

  pub search-none : {p : ℕ} → Search u entries count w p → p ≤ 0 → Unkeyed u entries count w
  search-none r z i l = r.none i (omega arith) l
