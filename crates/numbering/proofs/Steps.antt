-- One part more: found among the entries, or new; and the line once all are numbered. Assumes nothing.
use mathlib.Core.Path.{◌≡◌, sym, ap, ◌∙◌}
use mathlib.Core.List.{List, [], ◌∷◌, ◌++◌, append_assoc, append-nil}
use Prim.Native.Nat.{ℕ, suc, ◌+◌, ◌-◌, ◌≤◌, ◌<◌}
use native.Mathlib.Numerals.{add-one}
use native.Mathlib.Omega.{arith}
use borrow.Author.Count.{below_more}
use lib.ListN.{length, get_or, set, take, drop, length-append, length-set, length-take}
use lib.Seq.{get_or-append_seam, get_or-append-add, get_or-set_same, get_or-set_other, get_or-take, take-suc, split_at, take_all}
use Rattle.condition.specs.Condition.{Condition, atom, parts}
use Rattle.condition.specs.declared.Atom.TheVariants.{True}
use Rattle.condition.specs.Texts.{most_parts}
use Rattle.condition.proofs.Parts.{parts-few, parts_last}
use Rattle.sharing.specs.Sharing.{most_tables, part, number_of, firsts}
use Rattle.sharing.specs.Keys.{Known, key_of, Postfix}
use Rattle.sharing.proofs.Firsts.{firsts-one-each, firsts-begin, number-kept}
use Rattle.sharing.proofs.Keys.{key-stays, postfix-front, part-ready, step-found, step-new, keys_kept}
use Rattle.keys.specs.Store.{key_in, Formed, Store, Keyed, Unkeyed}
use Rattle.numbering.specs.Numbering.{entry_of, Usable, Shares, Sharing, Line, SoFar, LineNumbered}
use Rattle.numbering.specs.declared.LineNumber.{LineNumber}
use Rattle.numbering.proofs.Entries.{entry-usable, entry-told}

-- the part c after the parts ps
module _ {u : List ℕ} {ps : List Condition} {entries : List ℕ} {count : ℕ} (s : Shares u ps entries count)
    (c : Condition) (qs : List Condition) (w : Postfix (ps ++ c ∷ qs)) (e : ℕ) (k : key_in u e ≡ key_of (firsts ps) c) where
  more : Postfix (ps ++ c ∷ [])
  more = postfix-front (ps ++ c ∷ []) qs (rw (append_assoc ps (c ∷ []) qs) w)

  module _ (i : ℕ) (l : i < count) (same : key_in u (get_or entries i 0) ≡ key_in u e) where
    found : (firsts (ps ++ c ∷ []) ≡ firsts ps) × (number_of (firsts (ps ++ c ∷ [])) c ≡ i)
    found = step-found ps c qs w i (omega (arith, s.counted)) (sym (s.keys i l) ∙ same ∙ k)

    shares-found : Shares u (ps ++ c ∷ []) entries count
    shares-found = record { postfix = more; counted = s.counted ∙ ap length (sym found.0); keys = λ j m. rw found.0 (s.keys j m) }

  module _ (none : (i : ℕ) → i < count → key_in u (get_or entries i 0) ≡ key_in u e → ⊥) where
    new : (firsts (ps ++ c ∷ []) ≡ firsts ps ++ c ∷ []) × (number_of (firsts (ps ++ c ∷ [])) c ≡ length (firsts ps))
    new = step-new ps c qs w (λ i m q. let l : i < count = omega (arith, s.counted) in none i l (s.keys i l ∙ q ∙ sym k))

    new-count : length (firsts (ps ++ c ∷ [])) ≡ count + 1
    new-count = omega (arith, ap length new.0, length-append (firsts ps) (c ∷ []), s.counted)

    last-key : key_of (firsts (ps ++ c ∷ [])) (part (firsts (ps ++ c ∷ [])) (length (firsts ps))) ≡ key_of (firsts ps) c
    last-key = rw (new.0, get_or-append_seam (firsts ps) c [] (atom True)) (key-stays (firsts ps) (c ∷ []) c (part-ready ps c qs w).operands)

    shares-new : count < length entries → Shares u (ps ++ c ∷ []) (set entries count e) (count + 1)
    shares-new room = record {
      postfix = more;
      counted = sym new-count;
      keys = below_more (λ i. key_in u (get_or (set entries count e) i 0) ≡ key_of (firsts (ps ++ c ∷ [])) (part (firsts (ps ++ c ∷ [])) i)) count
          (λ i m. ap (key_in u) (get_or-set_other entries count i e 0 (λ z. omega arith)) ∙ s.keys i m ∙ sym (keys_kept ps (c ∷ []) s.postfix i (omega (arith, s.counted))))
          (ap (key_in u) (get_or-set_same entries count e 0 room) ∙ k ∙ sym last-key
          ∙ ap (λ (i : ℕ). key_of (firsts (ps ++ c ∷ [])) (part (firsts (ps ++ c ∷ [])) i)) (sym s.counted));
    }

-- part k of the line c
module _ {u : List ℕ} {base m : ℕ} {ws : List ℕ} {ps : List Condition} {c : Condition} {ns entries links heads : List ℕ} {count k : ℕ}
    (x : Line u base m ws ps c) (s : SoFar u ps c ns entries links heads count k) (l : k < length (parts c)) where
  abbrev seen : List Condition
  seen = ps ++ take k (parts c)

  abbrev p : Condition
  p = part (parts c) k

  seen_more : ps ++ take (k + 1) (parts c) ≡ seen ++ p ∷ []
  seen_more = rw (add-one k, take-suc (parts c) k (atom True) l) (sym (append_assoc ps (take k (parts c)) (p ∷ [])))

  seen-whole : Postfix (seen ++ p ∷ drop (suc k) (parts c))
  seen-whole = rw (append_assoc ps (take k (parts c)) (p ∷ drop (suc k) (parts c)), ← split_at (parts c) k (atom True) l) x.postfix

  -- the parts before have numbers
  pub before-known : (i : ℕ) → i < k → Known (firsts seen) (part (parts c) i)
  before-known i b =
      let a : length (take k (parts c)) ≡ k = simp length-take (omega arith) in
      let n = length-append ps (take k (parts c)) in
      let e : part seen (length ps + i) ≡ part (parts c) i = get_or-append-add ps (take k (parts c)) i (atom True) ∙ get_or-take k (parts c) i (atom True) b in
      rw e at ((firsts-one-each seen).known (length ps + i) (omega arith))

  numbers_more : (number : ℕ) → number_of (firsts (seen ++ p ∷ [])) p ≡ number → (i : ℕ) → i < k + 1
      → get_or (set ns k number) i 0 ≡ number_of (firsts (ps ++ take (k + 1) (parts c))) (part (parts c) i)
  numbers_more number is =
      rw seen_more (below_more (λ i. get_or (set ns k number) i 0 ≡ number_of (firsts (seen ++ p ∷ [])) (part (parts c) i)) k
      (λ i b. get_or-set_other ns k i number 0 (λ z. omega arith) ∙ s.numbers i b ∙ sym (number-kept seen (p ∷ []) (part (parts c) i) (before-known i b)))
      (get_or-set_same ns k number 0 (omega (arith, s.room, few)) ∙ sym is))
    where
      few : length (parts c) ≤ most_parts
      few = x.held.taken.few

  module _ (e : ℕ) (key : key_in u e ≡ key_of (firsts seen) p) where
    pub part-found : (r : ℕ) → Keyed u entries count e r → SoFar u ps c (set ns k r) entries links heads count (k + 1)
    part-found r looked = record {
      within = omega arith;
      room = length-set ns k r ∙ s.room;
      store = s.store;
      shares = rw seen_more (shares-found s.shares p (drop (suc k) (parts c)) seen-whole e key r looked.inside looked.same);
      numbers = numbers_more r (found s.shares p (drop (suc k) (parts c)) seen-whole e key r looked.inside looked.same).1;
    }

    module _ (none : Unkeyed u entries count e) where
      pub part-new : count < most_tables → {entries' links' heads' : List ℕ} → entries' ≡ set entries count e → Store u entries' links' heads' (count + 1)
          → SoFar u ps c (set ns k count) entries' links' heads' (count + 1) (k + 1)
      part-new d is t = record {
        within = omega arith;
        room = length-set ns k count ∙ s.room;
        store = t;
        shares = rw (seen_more, is) (shares-new s.shares p (drop (suc k) (parts c)) seen-whole e key none (omega (arith, s.store.many)));
        numbers = numbers_more count ((new s.shares p (drop (suc k) (parts c)) seen-whole e key none).1 ∙ sym s.shares.counted);
      }

      -- there are more than can be held, and no fewer after the whole line
      pub part-over : most_tables ≤ count → most_tables < length (firsts (ps ++ parts c))
      part-over d =
          let a = new-count s.shares p (drop (suc k) (parts c)) seen-whole e key none in
          let f : ps ++ parts c ≡ (seen ++ p ∷ []) ++ drop (suc k) (parts c) =
          ap (λ (y : List Condition). ps ++ y) (split_at (parts c) k (atom True) l) ∙ sym (append_assoc ps (take k (parts c)) (p ∷ drop (suc k) (parts c)))
          ∙ sym (append_assoc seen (p ∷ []) (drop (suc k) (parts c))) in
          let (es, g) = firsts-begin (seen ++ p ∷ []) (drop (suc k) (parts c)) in
          let h : length (firsts (ps ++ parts c)) ≡ length (firsts (seen ++ p ∷ [])) + length es = ap (λ (y : List Condition). length (firsts y)) f ∙ ap length g ∙ length-append (firsts (seen ++ p ∷ [])) es in
          omega arith

-- the entry that is looked up for it
module _ {u : List ℕ} {base m : ℕ} {ws : List ℕ} {ps : List Condition} {c : Condition} {ns entries links heads : List ℕ} {count k : ℕ}
    (x : Line u base m ws ps c) (s : SoFar u ps c ns entries links heads count k) (l : k < m) where
  pub inside : k < length (parts c)
  inside = omega (arith, x.held.held.counted)

  room : k ≤ length ns
  room = omega (arith, inside, s.room, x.held.taken.few)

  few : length (firsts (ps ++ take k (parts c))) ≤ most_tables
  few = omega (arith, s.shares.counted, s.store.few)

  pub step-usable : Usable (get_or ws k 0) base k ns
  step-usable = entry-usable x k l ns room (firsts (ps ++ take k (parts c))) few s.numbers (before-known x s inside)

  pub step-told : (e : ℕ) → e ≡ entry_of (get_or ws k 0) base ns k → (key_in u e ≡ key_of (firsts (ps ++ take k (parts c))) (part (parts c) k)) × Formed u e
  step-told e is = rw is (entry-told x k l ns room (firsts (ps ++ take k (parts c))) few s.numbers (before-known x s inside))

-- nothing numbered yet
pub none-numbered : {u : List ℕ} {ps : List Condition} (c : Condition) {ns entries links heads : List ℕ} {count : ℕ} → length ns ≡ most_parts → Sharing u ps entries links heads count
    → count ≤ most_tables → SoFar u ps c ns entries links heads count 0
none-numbered {ps = ps} c room s b = record { within = omega arith; room = room; store = s.store b; shares = rw (append-nil ps) (s.shares b); numbers = λ i l. absurd (omega arith) }

-- all parts are numbered
pub all-numbered : {u : List ℕ} {ps : List Condition} {c : Condition} {ns entries links heads : List ℕ} {count k : ℕ} → SoFar u ps c ns entries links heads count k → length (parts c) ≤ k
    → (r : LineNumber) → r.count ≡ count → r.table ≡ get_or ns (length (parts c) - 1) 0 → LineNumbered u ps c entries links heads r
all-numbered {u} {ps} {c} {ns} {entries} {links} {heads} {count} {k} s l r n t =
    let e : k ≡ length (parts c) = omega (arith, s.within) in
    let a : ps ++ take k (parts c) ≡ ps ++ parts c = ap (λ (y : List Condition). ps ++ y) (take_all k (parts c) l) in
    let few = s.store.few in
    let some = parts-few c in
    record {
      sharing = rw n (record { store = λ _. s.store; shares = λ _. rw a at s.shares; over = λ b. absurd (omega arith) });
      table = λ _. t ∙ (rw a at (s.numbers (length (parts c) - 1) (omega arith))) ∙ ap (number_of (firsts (ps ++ parts c))) (parts_last c);
    }

pub over-numbered : {u : List ℕ} {ps : List Condition} {c : Condition} {entries links heads : List ℕ} → most_tables < length (firsts (ps ++ parts c)) → (r : LineNumber) → most_tables < r.count
    → LineNumbered u ps c entries links heads r
over-numbered o r b = record {
  sharing = record { store = λ l. absurd (omega arith); shares = λ l. absurd (omega arith); over = λ _. o };
  table = λ l. absurd (omega arith);
}

-- those of a longer list are no fewer
pub firsts-over : (ps qs : List Condition) → most_tables < length (firsts ps) → most_tables < length (firsts (ps ++ qs))
firsts-over ps qs o = let (es, g) = firsts-begin ps qs in omega (arith, ap length g, length-append (firsts ps) es)
