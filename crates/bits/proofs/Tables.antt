-- Words that stand in rows of w words each: a row that is lent on and replaced, and the others, which are kept. Assumes nothing.
use mathlib.Core.Path.{◌≡◌, sym, ap, ap₂, ◌∙◌}
use mathlib.Core.List.{List, ◌++◌}
use Prim.Native.Nat.{ℕ, ◌+◌, ◌-◌, ◌*◌, ◌≤◌, ◌<◌}
use native.Mathlib.Decide.{dec_lt}
use native.Mathlib.Nat.{mul-le-mul_left, mul-suc}
use native.Mathlib.Omega.{arith}
use lib.ListN.{length, get_or, take, drop, length-append, length-take, length-drop, get_or-append, get_or-eq_default}
use lib.Seq.{take_at, drop_at, ext_get_or, get_or-take, get_or-drop, get_or-append-add}
use Rattle.bits.specs.Row.{row_of, Kept, Zeros}

-- ---- a part in the middle of a list is replaced

module _ (xs ys : List ℕ) (a d n : ℕ) (e : d ≡ n) (fits : a + n ≤ length xs) (l : length ys ≡ n) where
  abbrev new : List ℕ
  new = take a xs ++ (ys ++ drop d (drop a xs))

  front : length (take a xs) ≡ a
  front = simp length-take (omega arith)

  -- the part is what replaced it
  splice-part : take n (drop a new) ≡ ys
  splice-part = ap (take n) (drop_at (take a xs) (ys ++ drop d (drop a xs)) a front) ∙ take_at ys (drop d (drop a xs)) n l

  -- and all else is kept
  splice-kept : Kept xs new a n
  splice-kept = record {
    same = simp (length-append, length-take, length-drop) (omega arith);
    before = λ m h. get_or-append (take a xs) _ 0 m (omega (arith, front)) ∙ get_or-take a xs m 0 h;
    past = λ m h. later (m - a - n) m (omega arith);
  }
    where
      later : (i m : ℕ) → m ≡ a + (n + i) → get_or new m 0 ≡ get_or xs m 0
      later i m f =
          ap (λ (k : ℕ). get_or new k 0) (f ∙ ap₂ (λ (b k : ℕ). b + (k + i)) (sym front) (sym l))
          ∙ get_or-append-add (take a xs) (ys ++ drop d (drop a xs)) (length ys + i) 0 ∙ get_or-append-add ys (drop d (drop a xs)) i 0
          ∙ get_or-drop d (drop a xs) i 0 ∙ get_or-drop a xs (d + i) 0 ∙ ap (λ (k : ℕ). get_or xs k 0) (ap (λ (k : ℕ). a + (k + i)) e ∙ sym f)

-- ---- row k of t

pub row_at : (w : ℕ) (t : List ℕ) (k i : ℕ) → i < w → get_or (row_of w t k) i 0 ≡ get_or t (w * k + i) 0
row_at w t k i l = get_or-take w (drop (w * k) t) i 0 l ∙ get_or-drop (w * k) t i 0

module _ (w : ℕ) (t : List ℕ) (k : ℕ) (fits : w * k + w ≤ length t) where
  -- the part that is lent is the row
  pub part-row : take (w * k + w - w * k) (drop (w * k) t) ≡ row_of w t k
  part-row = let e : w * k + w - w * k ≡ w = omega arith in ap (λ (n : ℕ). take n (drop (w * k) t)) e

  pub row-length : length (row_of w t k) ≡ w
  row-length = simp (length-take, length-drop) (omega arith)

  pub part_length : length (take (w * k + w - w * k) (drop (w * k) t)) ≡ w
  part_length = ap length part-row ∙ row-length

  -- the words after the part that was lent became ys
  abbrev pub replaced : List ℕ → List ℕ
  replaced ys = take (w * k) t ++ (ys ++ drop (w * k + w - w * k) (drop (w * k) t))

  module _ (ys : List ℕ) (l : length ys ≡ w) where
    wide : w * k + w - w * k ≡ w
    wide = omega arith

    pub replaced-row : row_of w (replaced ys) k ≡ ys
    replaced-row = splice-part t ys (w * k) (w * k + w - w * k) w wide fits l

    pub replaced-kept : Kept t (replaced ys) (w * k) w
    replaced-kept = splice-kept t ys (w * k) (w * k + w - w * k) w wide fits l

-- a row of zeros
pub row-zeros : (w : ℕ) (t : List ℕ) (k : ℕ) {n : ℕ} → Zeros n t → w * k + w ≤ length t → Zeros w (row_of w t k)
row-zeros w t k z fits = record { size = row-length w t k fits; zero = λ i. at i (dec_lt i w) }
  where
    at : (i : ℕ) → Dec (i < w) → get_or (row_of w t k) i 0 ≡ 0
    at i (yes l) = row_at w t k i l ∙ z.zero (w * k + i)
    at i (no l) = get_or-eq_default (row_of w t k) 0 (omega (arith, row-length w t k fits))

-- ---- the other rows

row-further : (w j k : ℕ) → j < k → w * j + w ≤ w * k
row-further w j k l = omega (arith, mul-suc w j, mul-le-mul_left w l)

-- a row beside the one that was written is kept
pub row_kept : (w : ℕ) (old new : List ℕ) (k : ℕ) → Kept old new (w * k) w → (j : ℕ) → (j ≡ k → ⊥) → w * j + w ≤ length old → row_of w new j ≡ row_of w old j
row_kept w old new k kept j apart fits =
    ext_get_or 0 (row_of w new j) (row_of w old j) (row-length w new j (omega (arith, kept.same)) ∙ sym (row-length w old j fits))
    (λ i l. let h : i < w = omega (arith, row-length w new j (omega (arith, kept.same))) in
    row_at w new j i h ∙ other i h (dec_lt j k) ∙ sym (row_at w old j i h))
  where
    other : (i : ℕ) → i < w → Dec (j < k) → get_or new (w * j + i) 0 ≡ get_or old (w * j + i) 0
    other i l (yes h) = kept.before (w * j + i) (omega (arith, row-further w j k h))
    other i l (no h) = kept.past (w * j + i) (omega (arith, row-further w k j (omega arith)))
