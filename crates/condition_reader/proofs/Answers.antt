-- A whole text: what the reader's answer says of it, and that reading gives a spelled condition back. Assumes nothing.
use mathlib.Core.Path.{◌≡◌, refl, ap, sym, ◌∙◌}
use mathlib.Core.List.{List, [], append-nil}
use Prim.Native.Nat.{ℕ, zero, suc, ◌+◌, ◌-◌, ◌≤◌, ◌<◌}
use native.Mathlib.Omega.{arith}
use native.Mathlib.Nat.{zero-add}
use lib.ListN.{length, drop, replicate, length-drop, length-replicate, drop_of_length-le}
use lib.Seq.{sets-eq, length-sets, take_at, drop_at}
use Rattle.condition_reader.specs.declared.Reading.{Reading}
use Rattle.condition_reader.specs.declared.Refusal.{Refusal}
use Rattle.std.specs.Prelude.{Result, Ok, Err, Some, None}
use Rattle.condition.specs.Condition.{Condition, spell_condition, parts}
use Rattle.condition.specs.Texts.{most_bytes, most_parts, Taken}
use Rattle.condition_reader.specs.Reading.{ConditionRead}
use Rattle.condition.specs.Words.{words, Held}
use Rattle.condition_reader.specs.Parsing.{parse_condition, Reads, TellsWhole}
use Rattle.condition_reader.proofs.Spelling.{condition-sound, whole-complete}
use Rattle.condition_reader.proofs.Unique.{taken-unique, taken_refused}
use Rattle.condition_reader.proofs.Readers.{tells-found, tells-not}
use Rattle.condition.proofs.Words.{words-length}

drop-replicate : (n m a : ℕ) → drop m (replicate n a) ≡ replicate (n - m) a
drop-replicate n zero a = let e : n - 0 ≡ n = omega arith in rw e
drop-replicate zero (suc m) a = let e : 0 - suc m ≡ 0 = omega arith in rw e
drop-replicate (suc n) (suc m) a = let e : suc n - suc m ≡ n - m = omega arith in rw e (drop-replicate n m a)

module _ (t o q : List ℕ) where
  -- nothing was found
  pub whole-not : Reads t 0 o 0 q None → TellsWhole t o q None
  whole-not i c s =
      let z : ◌≡◌ {A = ℕ} 0 1 = cc (tells-not (parse_condition (length t) t) t 0 o 0 q (i (length t) (omega arith)), whole-complete t c s) in
      omega arith

  module _ (k m : ℕ) (i : Reads t 0 o 0 q (Some (m, k))) where
    -- a condition was found, and more follows
    pub whole-more : k < length t → TellsWhole t o q None
    whole-more h c s =
        tells-found (parse_condition (length t) t) t 0 o 0 q k m (i (length t) (omega arith)) λ d e _.
        let w : drop k t ≡ [] = cc (whole-complete t c s) in
        let x : length t - k ≡ 0 = sym (length-drop k t) ∙ ap length w in
        omega arith

    pub whole-found : length t ≤ k → TellsWhole t o q (Some m)
    whole-found h =
        tells-found (parse_condition (length t) t) t 0 o 0 q k m (i (length t) (omega arith)) λ c e s.
        let j = condition-sound (length t) t c (drop k t) e in
        (c, record { spelling = j.0 ∙ rw (drop_of_length-le t h) (append-nil (spell_condition c)); valid = j.1 }, s)

  module _ (m : ℕ) (w : TellsWhole t o q (Some m)) (b : length t ≤ most_bytes) where
    pub few-taken : m ≤ most_parts → o ≡ replicate most_parts 0 → (c : Condition) × Taken t c × Held c m q
    few-taken f r =
        let c = w.0 in
        let n = w.2.counted in
        let l = words-length c 0 0 in
        let z : length o ≡ most_parts = ap length r ∙ length-replicate {A = ℕ} most_parts 0 in
        let e : m ≡ length (words c 0 0) = omega arith in
        let i = sets-eq (words c 0 0) o 0 (omega arith) in (
          c,
          record { short = b; spells = w.1; few = omega arith },
          record {
            counted = omega arith;
            kept = rw (w.2.text, i) (take_at (words c 0 0) (drop (0 + length (words c 0 0)) o) m (sym e));
            zeros = rw (w.2.text, i, drop_at (words c 0 0) (drop (0 + length (words c 0 0)) o) m (sym e), ← e, zero-add m, r) (drop-replicate most_parts m 0);
            room = ap length w.2.text ∙ length-sets o 0 (words c 0 0) ∙ z;
          },
        )

-- the text of a condition that is to be taken is read, and gives it back
pub read_back : (t : List ℕ) (c : Condition) → Taken t c → (a : Result Reading Refusal) → ConditionRead t a → (r : Reading) × (a ≡ Ok r) × Held c (length (parts c)) r.words × (r.count ≡ length (parts c))
read_back t c k (Ok r) h =
    let e : h.0 ≡ c = taken-unique h.1 k in
    let g : Held c r.count r.words = rw e at h.2 in
    (r, refl, rw g.counted at g, g.counted)
read_back t c k (Err f) h = absurd (taken_refused k f h)
