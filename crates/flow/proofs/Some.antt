-- Laws of `some`, the search below a bound. Assumes nothing.
use mathlib.Core.Path.{◌≡◌, refl, ap₂}
use mathlib.Core.Bool.{Bool, true, false, ◌||◌}
use Prim.Native.Nat.{ℕ, zero, suc, ◌<◌}
use native.Mathlib.Omega.{arith}
use Rattle.base.proofs.Bools.{or_left, or_right, last-or-below}
use Rattle.flow.specs.Flow.{some}

pub some-none : (n : ℕ) (f : ℕ → Bool) → ((t : ℕ) → t < n → f t ≡ false) → some n f ≡ false
unfolding some
some-none zero f h = refl
some-none (suc n) f h = ap₂ ◌||◌ (h n (omega arith)) (some-none n f (λ t l. h t (omega arith)))

pub some_same : (n : ℕ) (f g : ℕ → Bool) → ((t : ℕ) → f t ≡ g t) → some n f ≡ some n g
unfolding some
some_same zero f g h = refl
some_same (suc n) f g h = ap₂ ◌||◌ (h n) (some_same n f g h)

pub some-here : (n : ℕ) (f : ℕ → Bool) (t : ℕ) → t < n → f t ≡ true → some n f ≡ true
unfolding some
some-here zero f t l e = absurd (omega arith)
some-here (suc n) f t l e =
    last-or-below n (λ k. f k ≡ true → some (suc n) f ≡ true) (λ h. or_left (f n) (some n f) h) (λ k b h. or_right (f n) (some n f) (some-here n f k b h)) t l e
