-- How many members a set has below a number, and the first member of a row. Assumes nothing.
use mathlib.Core.Path.{◌≡◌, refl, sym, ap, ap₂, ◌∙◌}
use mathlib.Core.List.{List}
use mathlib.Core.Bool.{Bool, true, false}
use mathlib.Core.Logic.{⊎_elim}
use Prim.Native.Nat.{ℕ, zero, suc, ◌+◌, ◌-◌, ◌*◌, ◌/◌, ◌%◌, ◌^◌, ◌≤◌, ◌<◌}
use native.Mathlib.Nat.{mod-lt, zero-lt-suc, add-zero, add-suc, add_assoc, add_comm, mod-eq_of_lt}
use native.Mathlib.Numerals.{add-one, one-add}
use native.Mathlib.Decide.{dec_lt}
use native.Mathlib.Omega.{arith}
use lib.Dec.{eqb}
use lib.ListN.{length, get_or}
use lib.Arith.{lt-one}
use lib.Pow.{pow_pos, shr_lt, field, mod-mod-pow}
use lib.Pow as pow
use lib.Count.{ones, ones_cat, ones_in, count_trailing_zeros}
use Rattle.bits.specs.Row.{bit, member, one, count_below, First}
use Rattle.base.proofs.Bools.{split, clash, last-or-below}
use Rattle.bits.proofs.Words.{bit-zero, lowest_set, lower-clear}
use Rattle.bits.proofs.Rows.{word-member}

-- ---- sets

one-le : (b : Bool) → one b ≤ 1
one-le true = omega arith
one-le false = omega arith

pub count-le : (f : ℕ → Bool) (n : ℕ) → count_below f n ≤ n
unfolding count_below
count-le f zero = omega arith
count-le f (suc n) = let h = count-le f n in let k = one-le (f n) in omega arith

pub count-ext : (f g : ℕ → Bool) (n : ℕ) → ((j : ℕ) → j < n → f j ≡ g j) → count_below f n ≡ count_below g n
unfolding count_below
count-ext f g zero h = refl
count-ext f g (suc n) h = ap₂ ◌+◌ (count-ext f g n (λ j l. h j (omega arith))) (ap one (h n (omega arith)))

count_add : (f : ℕ → Bool) (m n : ℕ) → count_below f (m + n) ≡ count_below f m + count_below (λ j. f (m + j)) n
unfolding count_below
count_add f m zero = ap (count_below f) (add-zero m) ∙ sym (add-zero _)
count_add f m (suc n) = ap (count_below f) (add-suc m n) ∙ ap (λ (x : ℕ). x + one (f (m + n))) (count_add f m n) ∙ add_assoc _ _ _

pub count-up : (f : ℕ → Bool) (n : ℕ) → count_below f n ≤ count_below f (n + 1)
unfolding count_below
count-up f n = rw add-one (omega arith)

pub count-one : (f : ℕ → Bool) (n : ℕ) → f n ≡ true → count_below f (n + 1) ≡ count_below f n + 1
unfolding count_below
count-one f n e = rw (add-one n, e)

pub count_none : (f : ℕ → Bool) (n : ℕ) → f n ≡ false → count_below f (n + 1) ≡ count_below f n
unfolding count_below
count_none f n e = rw (add-one n, e) (omega arith)

-- a set within another has no more members, and fewer where the other has one more
module _ (f g : ℕ → Bool) where
  one-mono : (a b : Bool) → (a ≡ true → b ≡ true) → one a ≤ one b
  one-mono true true h = omega arith
  one-mono true false h = clash (h refl) refl
  one-mono false b h = omega arith

  one_less : (a b : Bool) → a ≡ false → b ≡ true → one a < one b
  one_less true b e t = clash refl e
  one_less false true e t = omega arith
  one_less false false e t = clash t refl

  count-mono : (n : ℕ) → ((j : ℕ) → j < n → f j ≡ true → g j ≡ true) → count_below f n ≤ count_below g n
  unfolding count_below
  count-mono zero within = omega arith
  count-mono (suc n) within =
      let h = count-mono n (λ j l. within j (omega arith)) in
      let k = one-mono (f n) (g n) (within n (omega arith)) in
      omega arith

  pub count_less : (n : ℕ) → ((j : ℕ) → j < n → f j ≡ true → g j ≡ true) → (k : ℕ) → k < n → f k ≡ false → g k ≡ true → count_below f n < count_below g n
  unfolding count_below
  count_less zero within = λ k l. absurd (omega arith)
  count_less (suc n) within =
      let before : (j : ℕ) → j < n → f j ≡ true → g j ≡ true = λ j l. within j (omega arith) in
      last-or-below n (λ k. f k ≡ false → g k ≡ true → count_below f n + one (f n) < count_below g n + one (g n))
      (λ e t. omega (arith, count-mono n before, one_less (f n) (g n) e t))
      (λ k l e t. omega (arith, count_less n before k l e t, one-mono (f n) (g n) (within n (omega arith))))

-- a set that counts n below n has every number below n
pub count-full : (f : ℕ → Bool) (n : ℕ) → n ≤ count_below f n → (k : ℕ) → k < n → f k ≡ true
count-full f n h k l =
    ⊎_elim (λ t. t) (λ e. absurd (omega (arith, count_less f (λ _. true) n (λ _ _ _. refl) k l e refl, count-le (λ _. true) n)))
    (split (f k))

-- ---- the ones of a word

digit-one : (u : ℕ) → u < 2 → (ones u ≡ u) × (one (eqb u 1) ≡ u)
unfolding ones ones_in
digit-one zero h = (refl, refl)
digit-one (suc zero) h = (refl, refl)
digit-one (suc (suc u)) h = absurd (omega arith)

low_bit : (x k b : ℕ) → b < k → bit (x % 2 ^ k) b ≡ bit x b
unfolding bit
low_bit x k b h =
    let i : ℕ = k - suc b in
    let e : i + 1 + b ≡ k = omega arith in
    ap (λ (z : ℕ). eqb (x % 2 ^ z / 2 ^ b % 2) 1) (sym e) ∙ ap (λ (z : ℕ). eqb (z % 2) 1) (field x (i + 1) b) ∙ ap (λ (z : ℕ). eqb z 1) (mod-mod-pow (x / 2 ^ b) i 1)

pub ones-count : (k x : ℕ) → x < 2 ^ k → ones x ≡ count_below (bit x) k
unfolding count_below bit ones ones_in
ones-count zero x h = ap ones (lt-one h)
ones-count (suc k) x h =
    let q : x / 2 ^ k < 2 = shr_lt 1 k (rw one-add h) in
    ap ones (sym (pow.split x k)) ∙ ones_cat k (x / 2 ^ k) (x % 2 ^ k) (mod-lt x (pow_pos k))
    ∙ ap (λ (z : ℕ). ones (x / 2 ^ k) + z) (ones-count k (x % 2 ^ k) (mod-lt x (pow_pos k)) ∙ count-ext (bit (x % 2 ^ k)) (bit x) k (λ j l. low_bit x k j l))
    ∙ ap (λ (z : ℕ). z + count_below (bit x) k) ((digit-one (x / 2 ^ k) q).0 ∙ sym (mod-eq_of_lt q) ∙ sym (digit-one (x / 2 ^ k % 2) (mod-lt (x / 2 ^ k) (zero-lt-suc 1))).1)
    ∙ add_comm _ _

-- ---- a row, one word more

pub count_word : (row : List ℕ) (k : ℕ) → count_below (member row) ((k + 1) * 64) ≡ count_below (member row) (k * 64) + count_below (bit (get_or row k 0)) 64
count_word row k =
    let e : (k + 1) * 64 ≡ k * 64 + 64 = omega arith in
    ap (count_below (member row)) e ∙ count_add (member row) (k * 64) 64
    ∙ ap (λ (z : ℕ). count_below (member row) (k * 64) + z) (count-ext (λ j. member row (k * 64 + j)) (bit (get_or row k 0)) 64 (word-member row k))

module _ (row : List ℕ) (k : ℕ) (none : (j : ℕ) → j < k * 64 → member row j ≡ false) where
  -- a place past the words before k is of word k
  at-word : (P : ℕ → Type 0) (j : ℕ) → j < (k + 1) * 64 → (j < k * 64 → P j) → ((b : ℕ) → b < 64 → k * 64 + b ≡ j → P j) → P j
  at-word P j l low high = go (dec_lt j (k * 64))
    where
      go : Dec (j < k * 64) → P j
      go (yes h) = low h
      go (no h) = high (j - k * 64) (omega arith) (omega arith)

  pub none-word : get_or row k 0 ≡ 0 → (j : ℕ) → j < (k + 1) * 64 → member row j ≡ false
  none-word z j l =
      at-word (λ i. member row i ≡ false) j l (none j)
      (λ b d e. ap (member row) (sym e) ∙ word-member row k b d ∙ ap (λ (x : ℕ). bit x b) z ∙ bit-zero b)

  pub first_word : k < length row → (get_or row k 0 ≡ 0 → ⊥) → get_or row k 0 < 2 ^ 64 → First (member row) (length row * 64) (k * 64 + count_trailing_zeros 64 (get_or row k 0))
  first_word l z f =
      let h = lowest_set 64 (get_or row k 0) f z in
      record {
        within = omega (arith, h.0);
        before = λ j i. at-word (λ m. member row m ≡ false) j (omega (arith, h.0)) (none j)
            (λ b d e. ap (member row) (sym e) ∙ word-member row k b d ∙ lower-clear 64 (get_or row k 0) b (omega arith));
        found = λ _. word-member row k (count_trailing_zeros 64 (get_or row k 0)) h.0 ∙ h.1;
      }
