-- Writing one text after another.
use mathlib.Core.Path.{◌≡◌, refl, ap, sym, ◌∙◌}
use mathlib.Core.List.{List, [], ◌∷◌, ◌++◌}
use Prim.Native.Nat.{ℕ, suc, ◌+◌, ◌≤◌, ◌<◌}
use native.Mathlib.Omega.{arith}
use native.Mathlib.Numerals.{add-one}
use lib.ListN.{length, set, take, drop, get_or, length-append}
use borrow.Rule.Slice.PartMut.{put_mid}
use Rattle.std.proofs.lemmas.Slice.{put_mid-paste}
use lib.Seq.{sets, sets-eq, length-sets, take-suc, take_all, take-append_seam, length-take-le}
use Rattle.statement_writer.specs.Writing.{Put}

pub sets-append : (u v o : List ℕ) (i : ℕ) → sets (sets o i u) (i + length u) v ≡ sets o i (u ++ v)
sets-append [] v o i = let e : i + 0 ≡ i = omega arith in rw e
sets-append (a ∷ u) v o i = let e : i + suc (length u) ≡ suc i + length u = omega arith in rw (e, sets-append u v (set o i a) (suc i))

module _ {o q p u v : List ℕ} {at k r : ℕ} where
  -- one text after another is the two together
  pub put_then : Put o at u q k → Put q k v p r → Put o at (u ++ v) p r
  put_then a b = record {
    text = b.text ∙ rw (a.text, a.after) (sets-append u v o at);
    after = b.after ∙ rw (a.after, length-append u v) (omega arith);
  }

module _ {o q u : List ℕ} {at k : ℕ} where
  pub put-length : Put o at u q k → length q ≡ length o
  put-length a = ap length a.text ∙ length-sets o at u

  -- there is room for the second
  pub room : (v : List ℕ) → Put o at u q k → at + length (u ++ v) ≤ length o → k + length v ≤ length q
  room v a h = omega (arith, a.after, put-length a, length-append u v, h)

pub front : (u v : List ℕ) (at n : ℕ) → at + length (u ++ v) ≤ n → at + length u ≤ n
front u v at n h = omega (arith, length-append u v, h)

-- what was put at the front of the bytes stands there
pub put_front : {o w q : List ℕ} {k : ℕ} → Put o 0 w q k → length w ≤ length o → take k q ≡ w
put_front {o = o} {w = w} {q = q} {k = k} p h =
    let z : 0 + length w ≡ length w = omega arith in
    let rest : w ++ drop (0 + length w) o ≡ w ++ drop (length w) o = ap (λ (n : ℕ). w ++ drop n o) z in
    let e : q ≡ w ++ drop (length w) o = p.text ∙ sets-eq w o 0 (omega arith) ∙ rest in
    let n : k ≡ length w = p.after ∙ z in
    rw (e, n) (take-append_seam w (drop (length w) o))

pub put-within : {o w q : List ℕ} {k : ℕ} → Put o 0 w q k → length w ≤ length o → k ≤ length q
put-within p h = omega (arith, p.after, put-length p)

-- a part that becomes a copy of a text
pub put_part : (o w ys : List ℕ) (at k : ℕ) → ys ≡ w → k ≡ length w → at + length w ≤ length o → put_mid at k o ys ≡ sets o at w
put_part o w ys at k e f h = put_mid-paste at k o ys w (length w) e (sym f) refl ∙ rw (sets-eq w o at h, take_all (length w) w (omega arith))

-- one byte more of a word
pub sets_more : (w o : List ℕ) (at i : ℕ) → i < length w → set (sets o at (take i w)) (at + i) (get_or w i 0) ≡ sets o at (take (i + 1) w)
sets_more w o at i h =
    let e : length (take i w) ≡ i = length-take-le i w (omega arith) in
    let f : set (sets o at (take i w)) (at + length (take i w)) (get_or w i 0) ≡ sets o at (take i w ++ get_or w i 0 ∷ []) = sets-append (take i w) (get_or w i 0 ∷ []) o at in
    rw (add-one, take-suc w i 0 h) (rw e at f)
