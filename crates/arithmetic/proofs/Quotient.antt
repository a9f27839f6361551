-- The quotient of two numbers of 32 bits has 32 bits again, but for the least by -1. Assumes nothing.
use Rattle.std.proofs.Common.{◌≡◌, ℕ, zero, suc, ◌/◌, ◌^◌, ◌<◌, ◌≤◌, Bool, true, false, ◌&&◌, eqb, ℤ, pos, negsuc, neg_ℤ, sym, refl, ap, ◌∙◌, zero-le, zero-lt-suc, div-lt_iff_lt-mul, div-le_self, div-one, arith, w32, Fits, SFits, to_z, of_z}
use native.Mathlib.Decide.{ℕ_discrete}
use lib.Signed.{mag, quot_z}
use mir.Facts.{of_z-to_z, sfits_to_z}

mag-opposite : (r a : ℕ) → r ≤ suc a → mag (neg_ℤ (pos r)) ≤ a
mag-opposite zero a h = zero-le
mag-opposite (suc r) a h = omega arith

quot_below : (x y : ℤ) → mag x < 2 ^ 31 → (x ≡ negsuc 2147483647 → y ≡ negsuc 0 → ⊥) → mag (quot_z x y) < 2 ^ 31
quot_below (pos a) (pos b) h n = let d = div-le_self a b in omega arith
quot_below (pos a) (negsuc b) h n = let d = div-le_self a (suc b) in let m = mag-opposite (a / suc b) a (omega arith) in omega arith
quot_below (negsuc a) (pos b) h n = let d = div-le_self (suc a) b in let m = mag-opposite (suc a / b) a d in omega arith
quot_below (negsuc a) (negsuc zero) h n = by (ℕ_discrete a 2147483647)
  where
    by : Dec (a ≡ 2147483647) → suc a / 1 < 2 ^ 31
    by (yes e) = absurd (n (ap negsuc e) refl)
    by (no e) = let d = div-one (suc a) in omega arith
quot_below (negsuc a) (negsuc (suc b)) h n = (div-lt_iff_lt-mul (zero-lt-suc (suc b))).1 (omega arith)

pub quot_fits : (x y : ℤ) → SFits w32 x → (x ≡ negsuc 2147483647 → y ≡ negsuc 0 → ⊥) → SFits w32 (quot_z x y)
quot_fits x y f n = record { sfits = quot_below x y f.sfits n }

-- the bits of the numbers at the end of the range
pub least-bits : (a : ℕ) → Fits w32 a → to_z w32 a ≡ negsuc 2147483647 → a ≡ 2147483648
least-bits a f e = sym (of_z-to_z {w = w32} f) ∙ ap (of_z w32) e

pub minus-one-bits : (b : ℕ) → Fits w32 b → to_z w32 b ≡ negsuc 0 → b ≡ 4294967295
minus-one-bits b f e = sym (of_z-to_z {w = w32} f) ∙ ap (of_z w32) e

-- the least number by -1 gives its own bits
pub end-quotient : of_z w32 (quot_z (to_z w32 2147483648) (to_z w32 4294967295)) ≡ 2147483648
end-quotient = refl

-- and no other quotient needs more than 32 bits: by the bits of the two numbers
pub bits-quotient : (a b : ℕ) → Fits w32 a → Fits w32 b → (eqb a 2147483648 && eqb b 4294967295) ≡ false → SFits w32 (quot_z (to_z w32 a) (to_z w32 b))
bits-quotient a b f g e = quot_fits (to_z w32 a) (to_z w32 b) (sfits_to_z {w = w32} f) not_end
  where
    not_end : to_z w32 a ≡ negsuc 2147483647 → to_z w32 b ≡ negsuc 0 → ⊥
    not_end p q =
        let h = rw (least-bits a f p, minus-one-bits b g q) at e in
        let z : ◌≡◌ {A = Bool} true false = h in let y : ◌≡◌ {A = ℕ} 0 1 = cc in omega arith
