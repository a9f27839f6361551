-- How long a column's text is. Assumes nothing.
use mathlib.Core.Path.{◌≡◌, ◌∙◌}
use mathlib.Core.List.{List, ◌++◌, append_assoc}
use Prim.Native.Nat.{ℕ, ◌+◌, ◌-◌, ◌≤◌}
use native.Mathlib.Omega.{arith}
use lib.ListN.{length, take, drop, replicate, length-append, length-replicate, length-take, length-drop}
use lib.Seq.{sets, sets-eq, drop-drop}
use borrow.Rule.Slice.PartMut.{put_mid}
use Rattle.language.specs.Spelling.{digits}
use Rattle.statement_writer.specs.Writing.{Put}
use Rattle.statement_writer.proofs.Puts.{put_then, room}
use Rattle.desk.specs.Columns.{spaces, wide, padded}

pub wide-length : (w n : ℕ) → length (wide w n) ≡ (w - length (digits n)) + length (digits n)
unfolding wide
wide-length w n = simp (length-append, length-replicate)

pub padded-length : (w : ℕ) (xs : List ℕ) → length (padded w xs) ≡ length xs + (w - length xs)
unfolding padded
padded-length w xs = simp (length-append, length-replicate)

-- a part of the bytes that holds a text now
put_part : (o w : List ℕ) (at n : ℕ) → n ≡ length w → at + n ≤ length o → put_mid at n o w ≡ sets o at w
put_part o w at n e h = rw (sets-eq w o at (omega arith), drop-drop n at o, e, append_assoc)

-- a part that is filled with spaces
pub spaces_put : (o q : List ℕ) (at n : ℕ) → at + n ≤ length o → q ≡ replicate (length (take n (drop at o))) 32
    → Put o at (spaces n) (put_mid at n o q) (at + n)
spaces_put o q at n h e =
    let l : length (take n (drop at o)) ≡ n = simp (length-take, length-drop) (omega arith) in
    let s : length (spaces n) ≡ n = length-replicate n 32 in
    record {
      text = rw (e, l) (put_part o (spaces n) at n (omega arith) h);
      after = omega arith;
    }

-- the digits after their spaces
module _ {o q : List ℕ} {at k g d : ℕ} (w n : ℕ) (a : Put o at (spaces g) q k) (i : g ≡ w - d) (j : d ≡ length (digits n)) where
  pub number-room : at + length (wide w n) ≤ length o → k + length (digits n) ≤ length q
  unfolding wide
  number-room h = room (digits n) a (rw (i, j) h)

  pub number_put : {p : List ℕ} {r : ℕ} → Put q k (digits n) p r → Put o at (wide w n) p r
  unfolding wide
  number_put b = rw (i, j) at (put_then a b)

-- the spaces after a text
module _ {o q xs : List ℕ} {at k g : ℕ} (w : ℕ) (a : Put o at xs q k) (i : g ≡ w - (k - at)) where
  left_over : g ≡ w - length xs
  left_over = let e : k - at ≡ length xs = omega (arith, a.after) in i ∙ rw e

  pub padded-room : at + length (padded w xs) ≤ length o → k + g ≤ length q
  unfolding padded
  padded-room h = rw (left_over, ← length-replicate {A = ℕ} (w - length xs) 32) (room (spaces (w - length xs)) a h)

  pub padded-put : {p : List ℕ} {r : ℕ} → Put q k (spaces g) p r → Put o at (padded w xs) p r
  unfolding padded
  padded-put b = put_then a (rw left_over at b)
