-- A list that becomes a copy, entry by entry. Assumes nothing.
use mathlib.Core.Path.{◌≡◌}
use mathlib.Core.List.{List}
use Prim.Native.Nat.{ℕ, ◌+◌, ◌<◌}
use native.Mathlib.Numerals.{add-one}
use native.Mathlib.Omega.{arith}
use lib.ListN.{length, get_or, set, take, drop, length-drop}
use lib.Seq.{take-suc, take-suc-set, get_or-drop}

-- one entry more of a copy
pub copy_more : (xs ys : List ℕ) (i : ℕ) → take i ys ≡ take i xs → i < length ys → i < length xs → take (i + 1) (set ys i (get_or xs i 0)) ≡ take (i + 1) xs
copy_more xs ys i e h l = rw (add-one, take-suc-set ys i (get_or xs i 0) h, take-suc xs i 0 l, e)

-- the same of what stands from a on
pub copy-more-from : (xs ys : List ℕ) (a i : ℕ) → take i ys ≡ take i (drop a xs) → i < length ys → a + i < length xs
    → take (i + 1) (set ys i (get_or xs (a + i) 0)) ≡ take (i + 1) (drop a xs)
copy-more-from xs ys a i e h l = rw (← get_or-drop a xs i 0) (copy_more (drop a xs) ys i e h (rw (length-drop a xs) (omega arith)))
