-- The bits of a word: of `|`, `&` and `^`, of one bit, of the bits below a number, of the lowest bit, and of a word without it. Assumes nothing.
use mathlib.Core.Path.{◌≡◌, refl, sym, ap, ap₂, ◌∙◌}
use mathlib.Core.Bool.{Bool, true, false, ◌||◌, ◌&&◌, not, cond, and-false, and_self}
use Prim.Native.Nat.{ℕ, zero, suc, ◌+◌, ◌-◌, ◌*◌, ◌/◌, ◌%◌, ◌^◌, ◌≤◌, ◌<◌}
use native.Mathlib.Nat.{mod-lt, zero-lt-suc, one-mul, div-eq_of_lt, zero-div}
use native.Mathlib.Numerals.{add-one, one-add}
use native.Mathlib.Decide.{dec_lt}
use native.Mathlib.Omega.{arith}
use lib.Dec.{eqb, ltb, lit<}
use lib.Arith.{lt-one}
use lib.Pow.{pow-lt, pow_mono, pow-add, shl-shr, shr_lt, shr-shr, ones_split, high, low, ones_lt}
use lib.Bits.{bit_and, bit_or, bit_xor, and_shr, or_shr, xor_shr, and_mod, or_mod, xor_mod, shifted_even}
use lib.Count.{count_trailing_zeros, under}
use borrow.Author.Tests.{eq-eqb, ne_eqb, lt-ltb, le-ltb}
use Rattle.bits.specs.Row.{bit}
use Rattle.base.proofs.Bools.{clash}

pub bit-zero : (b : ℕ) → bit 0 b ≡ false
unfolding bit
bit-zero b = ap (λ (z : ℕ). eqb (z % 2) 1) (zero-div (2 ^ b))

-- ---- an operation that goes digit by digit

two_digits : (P : ℕ → ℕ → Type 0) → P 0 0 → P 0 1 → P 1 0 → P 1 1 → (u v : ℕ) → u < 2 → v < 2 → P u v
two_digits P a b c d zero zero h k = a
two_digits P a b c d zero (suc zero) h k = b
two_digits P a b c d (suc zero) zero h k = c
two_digits P a b c d (suc zero) (suc zero) h k = d
two_digits P a b c d zero (suc (suc v)) h k = absurd (omega arith)
two_digits P a b c d (suc zero) (suc (suc v)) h k = absurd (omega arith)
two_digits P a b c d (suc (suc u)) v h k = absurd (omega arith)

digit-unique : (u v : ℕ) → u < 2 → v < 2 → eqb u 1 ≡ eqb v 1 → u ≡ v
digit-unique = two_digits (λ u v. eqb u 1 ≡ eqb v 1 → u ≡ v) (λ _. refl) (λ e. clash e refl) (λ e. clash refl e) (λ _. refl)

module _ (op : ℕ → ℕ → ℕ) (g : Bool → Bool → Bool) where
  -- the operation says the same of two digits as g of two tests
  abbrev Digit : ℕ → ℕ → Type 0
  Digit u v = eqb (op u v) 1 ≡ g (eqb u 1) (eqb v 1)

  bit-op : ((x y b : ℕ) → op x y / 2 ^ b ≡ op (x / 2 ^ b) (y / 2 ^ b)) → ((x y b : ℕ) → op x y % 2 ^ b ≡ op (x % 2 ^ b) (y % 2 ^ b))
      → Digit 0 0 → Digit 0 1 → Digit 1 0 → Digit 1 1 → (x y b : ℕ) → bit (op x y) b ≡ g (bit x b) (bit y b)
  unfolding bit
  bit-op shift remain zz zo oz oo x y b =
      ap (λ (z : ℕ). eqb (z % 2) 1) (shift x y b) ∙ ap (λ (z : ℕ). eqb z 1) (remain (x / 2 ^ b) (y / 2 ^ b) 1)
      ∙ two_digits Digit zz zo oz oo _ _ (mod-lt (x / 2 ^ b) (zero-lt-suc 1)) (mod-lt (y / 2 ^ b) (zero-lt-suc 1))

pub bit-or : (x y b : ℕ) → bit (bit_or x y) b ≡ (bit x b || bit y b)
bit-or = bit-op bit_or ◌||◌ or_shr or_mod refl refl refl refl

pub bit-and : (x y b : ℕ) → bit (bit_and x y) b ≡ (bit x b && bit y b)
bit-and = bit-op bit_and ◌&&◌ and_shr and_mod refl refl refl refl

bit-xor : (x y b : ℕ) → bit (bit_xor x y) b ≡ cond (bit y b) (not (bit x b)) (bit x b)
bit-xor = bit-op bit_xor (λ a b. cond b (not a) a) xor_shr xor_mod refl refl refl refl

-- ---- the bits below c

pub bit-ones : (c b : ℕ) → bit (2 ^ c - 1) b ≡ ltb b c
unfolding bit
bit-ones c b = go (dec_lt b c)
  where
    odd : (i : ℕ) → (2 ^ (suc i + b) - 1) / 2 ^ b % 2 ≡ 1
    odd i =
        ap (λ (z : ℕ). z / 2 ^ b % 2) (ones_split (suc i) b) ∙ ap (λ (z : ℕ). z % 2) (high (2 ^ suc i - 1) b (ones_lt b))
        ∙ ap (λ (z : ℕ). (2 ^ z - 1) % 2) (sym (add-one i)) ∙ ap (λ (z : ℕ). z % 2) (ones_split i 1) ∙ low (2 ^ i - 1) 1 (lit< tt)

    go : Dec (b < c) → eqb ((2 ^ c - 1) / 2 ^ b % 2) 1 ≡ ltb b c
    go (yes h) =
        let e : suc (c - suc b) + b ≡ c = omega arith in
        ap (λ (z : ℕ). eqb ((2 ^ z - 1) / 2 ^ b % 2) 1) (sym e) ∙ ap (λ (z : ℕ). eqb z 1) (odd (c - suc b)) ∙ sym (lt-ltb b c h)
    go (no h) =
        let l : c ≤ b = omega arith in
        let s : 2 ^ c - 1 < 2 ^ b = omega (arith, ones_lt c, pow_mono l) in
        ap (λ (z : ℕ). eqb (z % 2) 1) (div-eq_of_lt s) ∙ sym (le-ltb b c l)

bit_not : (x b : ℕ) → b < 64 → bit (bit_xor x (2 ^ 64 - 1)) b ≡ not (bit x b)
bit_not x b h = bit-xor x (2 ^ 64 - 1) b ∙ ap (λ (z : Bool). cond z (not (bit x b)) (bit x b)) (bit-ones 64 b ∙ lt-ltb b 64 h)

pub bit-and-not : (x y b : ℕ) → b < 64 → bit (bit_and x (bit_xor y (2 ^ 64 - 1))) b ≡ (bit x b && not (bit y b))
bit-and-not x y b h = bit-and x (bit_xor y (2 ^ 64 - 1)) b ∙ ap (λ (z : Bool). bit x b && z) (bit_not y b h)

-- ---- one bit

pub bit-pow : (b c : ℕ) → bit (1 * 2 ^ b) c ≡ eqb b c
unfolding bit
bit-pow b c = go (dec_lt b c) (dec_lt c b)
  where
    above : (i : ℕ) → 1 * 2 ^ (suc i + c) / 2 ^ c % 2 ≡ 0
    above i = ap (λ (z : ℕ). z / 2 ^ c % 2) (one-mul _ ∙ pow-add 2 (suc i) c) ∙ ap (λ (z : ℕ). z % 2) (shl-shr (2 ^ suc i) c ∙ sym (one-mul _)) ∙ shifted_even 1 i

    go : Dec (b < c) → Dec (c < b) → eqb (1 * 2 ^ b / 2 ^ c % 2) 1 ≡ eqb b c
    go (yes h) d = ap (λ (z : ℕ). eqb (z % 2) 1) (ap (λ (z : ℕ). z / 2 ^ c) (one-mul (2 ^ b)) ∙ div-eq_of_lt (pow-lt h)) ∙ sym (ne_eqb b c (omega arith))
    go (no h) (yes k) =
        let e : suc (b - suc c) + c ≡ b = omega arith in
        ap (λ (z : ℕ). eqb (1 * 2 ^ z / 2 ^ c % 2) 1) (sym e) ∙ ap (λ (z : ℕ). eqb z 1) (above (b - suc c)) ∙ sym (ne_eqb b c (omega arith))
    go (no h) (no k) =
        let e : b ≡ c = omega arith in
        ap (λ (z : ℕ). eqb (1 * 2 ^ z / 2 ^ c % 2) 1) e ∙ ap (λ (z : ℕ). eqb (z % 2) 1) (shl-shr 1 c) ∙ sym (eq-eqb b c e)

-- ---- the lowest bit that is set

bit-suc : (x b : ℕ) → bit x (suc b) ≡ bit (x / 2) b
unfolding bit
bit-suc x b = ap (λ (z : ℕ). eqb (x / 2 ^ z % 2) 1) (sym (one-add b)) ∙ ap (λ (z : ℕ). eqb (z % 2) 1) (sym (shr-shr x 1 b))

-- a word is its bits
pub word-unique : (k x y : ℕ) → x < 2 ^ k → y < 2 ^ k → ((b : ℕ) → b < k → bit x b ≡ bit y b) → x ≡ y
unfolding bit
word-unique zero x y h l e = lt-one h ∙ sym (lt-one l)
word-unique (suc k) x y h l e =
    let halves = word-unique k (x / 2) (y / 2) (shr_lt k 1 (rw add-one h)) (shr_lt k 1 (rw add-one l)) (λ b i. sym (bit-suc x b) ∙ e (suc b) (omega arith) ∙ bit-suc y b) in
    let low = digit-unique (x / 2 ^ 0 % 2) (y / 2 ^ 0 % 2) (mod-lt _ (zero-lt-suc 1)) (mod-lt _ (zero-lt-suc 1)) (e 0 (omega arith)) in
    omega arith

pub lowest_set : (k x : ℕ) → x < 2 ^ k → (x ≡ 0 → ⊥) → (count_trailing_zeros k x < k) × (bit x (count_trailing_zeros k x) ≡ true)
unfolding count_trailing_zeros bit
lowest_set zero x h z = absurd (z (lt-one h))
lowest_set (suc k) x h z = go (x % 2) refl (λ e. lowest_set k (x / 2) (shr_lt k 1 (rw add-one h)) (λ d. z (omega arith)))
  where
    t : ℕ
    t = count_trailing_zeros k (x / 2)

    go : (r : ℕ) → x % 2 ≡ r → (x % 2 ≡ 0 → (t < k) × (bit (x / 2) t ≡ true)) → (under r t < suc k) × (bit x (under r t) ≡ true)
    go zero e ih = (omega (arith, (ih e).0), bit-suc x t ∙ (ih e).1)
    go (suc r) e ih = (omega arith, eq-eqb (x / 2 ^ 0 % 2) 1 (omega arith))

pub lower-clear : (k x b : ℕ) → b < count_trailing_zeros k x → bit x b ≡ false
unfolding count_trailing_zeros bit
lower-clear zero x b h = absurd (omega arith)
lower-clear (suc k) x zero h = go (x % 2) refl h
  where
    go : (r : ℕ) → x % 2 ≡ r → 0 < under r (count_trailing_zeros k (x / 2)) → bit x 0 ≡ false
    go zero e l = ne_eqb (x / 2 ^ 0 % 2) 1 (omega arith)
    go (suc r) e l = absurd (omega arith)
lower-clear (suc k) x (suc b) h = bit-suc x b ∙ lower-clear k (x / 2) b (go (x % 2) h)
  where
    go : (r : ℕ) → suc b < under r (count_trailing_zeros k (x / 2)) → b < count_trailing_zeros k (x / 2)
    go zero l = omega arith
    go (suc r) l = absurd (omega arith)

-- ---- the word without its lowest bit

pred-low : (k x b : ℕ) → x < 2 ^ k → (x ≡ 0 → ⊥) → b ≤ count_trailing_zeros k x → (bit x b && bit (x - 1) b) ≡ false
unfolding count_trailing_zeros bit
pred-low zero x b h z l = absurd (z (lt-one h))
pred-low (suc k) x zero h z l = go (x % 2) refl
  where
    go : (r : ℕ) → x % 2 ≡ r → (bit x 0 && bit (x - 1) 0) ≡ false
    go zero e = ap (λ (y : Bool). y && bit (x - 1) 0) (ne_eqb (x / 2 ^ 0 % 2) 1 (omega arith))
    go (suc r) e = ap (λ (y : Bool). bit x 0 && y) (ne_eqb ((x - 1) / 2 ^ 0 % 2) 1 (omega arith)) ∙ and-false (bit x 0)
pred-low (suc k) x (suc b) h z l = go (x % 2) refl l (λ e. pred-low k (x / 2) b (shr_lt k 1 (rw add-one h)) (λ d. z (omega arith)))
  where
    go : (r : ℕ) → x % 2 ≡ r → suc b ≤ under r (count_trailing_zeros k (x / 2))
        → (x % 2 ≡ 0 → b ≤ count_trailing_zeros k (x / 2) → (bit (x / 2) b && bit (x / 2 - 1) b) ≡ false) → (bit x (suc b) && bit (x - 1) (suc b)) ≡ false
    go zero e i ih =
        let half : (x - 1) / 2 ≡ x / 2 - 1 = omega arith in
        ap₂ ◌&&◌ (bit-suc x b) (bit-suc (x - 1) b ∙ ap (λ (y : ℕ). bit y b) half) ∙ ih e (omega arith)
    go (suc r) e i ih = absurd (omega arith)

pred-high : (k x b : ℕ) → x < 2 ^ k → (x ≡ 0 → ⊥) → count_trailing_zeros k x < b → bit (x - 1) b ≡ bit x b
unfolding count_trailing_zeros bit
pred-high zero x b h z l = absurd (z (lt-one h))
pred-high (suc k) x zero h z l = absurd (omega arith)
pred-high (suc k) x (suc b) h z l =
    bit-suc (x - 1) b ∙ go (x % 2) refl l (λ e. pred-high k (x / 2) b (shr_lt k 1 (rw add-one h)) (λ d. z (omega arith))) ∙ sym (bit-suc x b)
  where
    go : (r : ℕ) → x % 2 ≡ r → under r (count_trailing_zeros k (x / 2)) < suc b → (x % 2 ≡ 0 → count_trailing_zeros k (x / 2) < b → bit (x / 2 - 1) b ≡ bit (x / 2) b)
        → bit ((x - 1) / 2) b ≡ bit (x / 2) b
    go zero e i ih = let half : (x - 1) / 2 ≡ x / 2 - 1 = omega arith in ap (λ (y : ℕ). bit y b) half ∙ ih e (omega arith)
    go (suc r) e i ih = let half : (x - 1) / 2 ≡ x / 2 = omega arith in ap (λ (y : ℕ). bit y b) half

pub lowest-off : (k x b : ℕ) → x < 2 ^ k → (x ≡ 0 → ⊥) → b ≤ count_trailing_zeros k x → bit (bit_and x (x - 1)) b ≡ false
lowest-off k x b h z l = bit-and x (x - 1) b ∙ pred-low k x b h z l

pub higher-kept : (k x b : ℕ) → x < 2 ^ k → (x ≡ 0 → ⊥) → count_trailing_zeros k x < b → bit (bit_and x (x - 1)) b ≡ bit x b
higher-kept k x b h z l = bit-and x (x - 1) b ∙ ap (λ (y : Bool). bit x b && y) (pred-high k x b h z l) ∙ and_self _
