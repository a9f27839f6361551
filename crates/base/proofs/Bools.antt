-- Laws of Boolean tests, and the search below a bound for a number at which a test fails or holds. Assumes nothing.
use mathlib.Core.Path.{◌≡◌, refl, sym, ◌∙◌}
use mathlib.Core.Bool.{Bool, true, false, not, ◌&&◌, ◌||◌, true≢false}
use mathlib.Core.Logic.{◌⊎◌, inl, inr, ⊎_elim, ◌↔◌}
use Prim.Native.Nat.{ℕ, zero, suc, ◌<◌, suc-le-suc}
use native.Mathlib.Omega.{arith}
use native.Mathlib.Nat.{not-suc-le-zero, le_of_suc-le-suc}

-- a test is true or false
pub split : (b : Bool) → (b ≡ true) ⊎ (b ≡ false)
split true = inl refl
split false = inr refl

-- and not both
pub clash : {b : Bool} {X : Type 0} → b ≡ true → b ≡ false → X
clash t f = absurd (true≢false (sym t ∙ f))

pub and_left : (a b : Bool) → (a && b) ≡ true → a ≡ true
and_left true b e = refl
and_left false b e = e

pub and_right : (a b : Bool) → (a && b) ≡ true → b ≡ true
and_right true b e = e
and_right false b e = clash e refl

pub and_both : (a b : Bool) → a ≡ true → b ≡ true → (a && b) ≡ true
and_both true b x y = y
and_both false b x y = x

pub or_case : (a b : Bool) → (a || b) ≡ true → (a ≡ true) ⊎ (b ≡ true)
or_case true b e = inl refl
or_case false b e = inr e

pub or_left : (a b : Bool) → a ≡ true → (a || b) ≡ true
or_left true b e = refl
or_left false b e = clash e refl

pub or_right : (a b : Bool) → b ≡ true → (a || b) ≡ true
or_right true b e = refl
or_right false b e = e

pub not_of_false : (b : Bool) → b ≡ false → not b ≡ true
not_of_false true e = clash refl e
not_of_false false e = refl

pub false_of_not : (b : Bool) → not b ≡ true → b ≡ false
false_of_not true e = clash e refl
false_of_not false e = refl

pub true_of_not : (b : Bool) → not b ≡ false → b ≡ true
true_of_not true e = refl
true_of_not false e = clash refl e

-- `not a || b` says that b holds where a does
pub imply-use : (a b : Bool) → (not a || b) ≡ true → a ≡ true → b ≡ true
imply-use true b e t = e
imply-use false b e t = clash t refl

pub imply-make : (a b : Bool) → (a ≡ true → b ≡ true) → (not a || b) ≡ true
imply-make true b f = f refl
imply-make false b f = refl

pub imply-fail : (a b : Bool) → (not a || b) ≡ false → (a ≡ true) × (b ≡ false)
imply-fail true b e = (refl, e)
imply-fail false b e = clash refl e

-- two tests of the same claim
pub tests_agree : {X : Type 0} (a b : Bool) → (a ≡ true) ↔ X → (b ≡ true) ↔ X → a ≡ b
tests_agree true true f g = refl
tests_agree true false f g = sym (g.1 (f.0 refl))
tests_agree false true f g = f.1 (g.0 refl)
tests_agree false false f g = refl

-- a number below n + 1 is n, or below n
pub last-or-below : (n : ℕ) (P : ℕ → Type 0) → P n → ((k : ℕ) → k < n → P k) → (k : ℕ) → k < suc n → P k
last-or-below zero P h f zero l = h
last-or-below zero P h f (suc k) l = absurd (not-suc-le-zero (le_of_suc-le-suc l))
last-or-below (suc n) P h f zero l = f zero (omega arith)
last-or-below (suc n) P h f (suc k) l = last-or-below n (λ m. P (suc m)) h (λ m b. f (suc m) (suc-le-suc b)) k (le_of_suc-le-suc l)

-- the test holds at every number below n, or fails at one
pub search-below : (n : ℕ) (f : ℕ → Bool) → ((k : ℕ) → k < n → f k ≡ true) ⊎ ((k : ℕ) × (k < n) × (f k ≡ false))
search-below zero f = inl (λ k l. absurd (not-suc-le-zero l))
search-below (suc n) f = go (search-below n f) (split (f n))
  where
    go : ((k : ℕ) → k < n → f k ≡ true) ⊎ ((k : ℕ) × (k < n) × (f k ≡ false)) → (f n ≡ true) ⊎ (f n ≡ false) → ((k : ℕ) → k < suc n → f k ≡ true) ⊎ ((k : ℕ) × (k < suc n) × (f k ≡ false))
    go (inl h) (inl t) = inl (last-or-below n (λ m. f m ≡ true) t h)
    go (inl h) (inr e) = inr (n, omega arith, e)
    go (inr w) t = inr (w.0, omega arith, w.2)

-- the test holds at a number below n, or fails at every one
pub find-below : (n : ℕ) (f : ℕ → Bool) → ((k : ℕ) × (k < n) × (f k ≡ true)) ⊎ ((k : ℕ) → k < n → f k ≡ false)
find-below n f =
    ⊎_elim (λ h. inr (λ k l. false_of_not (f k) (h k l))) (λ w. inl (w.0, w.1, true_of_not (f w.0) w.2))
    (search-below n (λ k. not (f k)))
