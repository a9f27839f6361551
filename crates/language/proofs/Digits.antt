-- The decimal digits of a number, one by one.
use mathlib.Core.Path.{◌≡◌, refl, ap, ◌∙◌}
use mathlib.Core.List.{List, [], ◌∷◌, ◌++◌}
use mathlib.Core.Bool.{Bool, true, false}
use Prim.Native.Nat.{ℕ, zero, suc, ◌+◌, ◌*◌, ◌/◌, ◌%◌, ◌≤◌, ◌<◌}
use native.Mathlib.Omega.{arith}
use lib.Dec.{ltb}
use borrow.Author.Tests.{le-ltb, lt-ltb, ltb-false}
use Rattle.language.specs.Spelling.{digits_by, digits}

-- enough fuel is enough
fuel-enough : (f g n : ℕ) → n < f → n < g → digits_by f n ≡ digits_by g n
unfolding digits_by
fuel-enough zero g n p q = absurd (omega arith)
fuel-enough (suc f) zero n p q = absurd (omega arith)
fuel-enough (suc f) (suc g) n p q = go (ltb n 10) refl (λ a b. fuel-enough f g (n / 10) a b)
  where
    go : (b : Bool) → ltb n 10 ≡ b → (n / 10 < f → n / 10 < g → digits_by f (n / 10) ≡ digits_by g (n / 10)) → digits_by (suc f) n ≡ digits_by (suc g) n
    go true e r = rw e
    go false e r = let h : 10 ≤ n = ltb-false n 10 e in rw (e, r (omega arith) (omega arith))

pub digits-small : (n : ℕ) → n < 10 → digits n ≡ (48 + n) ∷ []
unfolding digits digits_by
digits-small n h = rw (lt-ltb n 10 h)

-- one digit more
pub digits_more : (n d : ℕ) → 0 < n → d < 10 → digits (n * 10 + d) ≡ digits n ++ (48 + d) ∷ []
unfolding digits digits_by
digits_more n d p q =
    let m : ℕ = n * 10 + d in
    let by : m / 10 ≡ n = omega arith in
    let rem : m % 10 ≡ d = omega arith in
    rw (le-ltb (n * 10 + d) 10 (omega arith), by, rem, fuel-enough (n * 10 + d) (suc n) n (omega arith) (omega arith))

pub digits-next : (n : ℕ) → 10 ≤ n → digits n ≡ digits (n / 10) ++ (48 + n % 10) ∷ []
digits-next n h =
    let w : n ≡ n / 10 * 10 + n % 10 = omega arith in
    ap digits w ∙ digits_more (n / 10) (n % 10) (omega arith) (omega arith)
