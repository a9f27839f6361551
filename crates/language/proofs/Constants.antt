-- How constants are spelled, by the half of the 32 bits that they lie in. Assumes nothing.
use mathlib.Core.Path.{◌≡◌, refl}
use mathlib.Core.List.{◌∷◌}
use Prim.Native.Nat.{ℕ, suc, ◌-◌, ◌^◌, ◌≤◌, ◌<◌}
use native.Mathlib.Omega.{arith}
use borrow.Author.Tests.{lt-ltb, le-ltb}
use Rattle.language.specs.Spelling.{largest, digits, signed_digits, spell_constant}

-- a constant that was one before there were signs is spelled as it was
pub constant-low : (n : ℕ) → n ≤ largest → spell_constant n ≡ digits n
unfolding signed_digits
constant-low n h = rw (lt-ltb n (2 ^ 31) (omega arith))

-- the others have `-` before their distance from 2 ^ 32
pub constant-high : (n : ℕ) → largest < n → n < 2 ^ 32 → spell_constant n ≡ 45 ∷ digits (2 ^ 32 - n)
unfolding signed_digits
constant-high n h l = let e : suc (2 ^ 32 - suc n) ≡ 2 ^ 32 - n = omega arith in rw (le-ltb n (2 ^ 31) (omega arith), e)
