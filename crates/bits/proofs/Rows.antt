-- The members of a row: word by word, past its end, after one more, and where it is filled a word at a time. Assumes nothing.
use mathlib.Core.Path.{◌≡◌, refl, sym, ap, ap₂, ◌∙◌, subst}
use mathlib.Core.List.{List, []}
use mathlib.Core.Bool.{Bool, false, ◌||◌, or-false}
use Prim.Native.Nat.{ℕ, zero, suc, ◌+◌, ◌*◌, ◌/◌, ◌%◌, ◌^◌, ◌≤◌, ◌<◌}
use native.Mathlib.Nat.{mod-lt, zero-lt-suc, div-add-mod'}
use native.Mathlib.Decide.{dec_lt, ℕ_discrete}
use native.Mathlib.Omega.{arith}
use lib.Dec.{eqb}
use lib.ListN.{length, get_or, set, length-set, get_or-eq_default, replicate, length-replicate, get_or-replicate}
use lib.Arith.{digits_div, digits_mod}
use lib.Bits.{bit_or}
use lib.Seq.{get_or-set_same, get_or-set_other}
use borrow.Author.Count.{below_more}
use borrow.Author.Tests.{eq-eqb, ne_eqb}
use Rattle.bits.specs.Row.{bit, member, Zeros, ZeroRows, Combined}
use Rattle.bits.proofs.Words.{bit-zero, bit-or, bit-pow}

-- place 64 k + b is bit b of word k
pub word-member : (row : List ℕ) (k b : ℕ) → b < 64 → member row (k * 64 + b) ≡ bit (get_or row k 0) b
unfolding member
word-member row k b l = ap₂ (λ (w c : ℕ). bit (get_or row w 0) c) (digits_div k l) (digits_mod k l)

pub member-beyond : (row : List ℕ) (j : ℕ) → length row * 64 ≤ j → member row j ≡ false
unfolding member
member-beyond row j l = let past : length row ≤ j / 64 = omega arith in ap (λ (x : ℕ). bit x (j % 64)) (get_or-eq_default row 0 past) ∙ bit-zero (j % 64)

-- zeros, and no place
get_d-zero : (n i : ℕ) → ◌≡◌ {A = ℕ} (get_or (replicate n 0) i 0) 0
get_d-zero zero i = refl
get_d-zero (suc n) zero = refl
get_d-zero (suc n) (suc i) = get_d-zero n i

pub zeros : (n : ℕ) → Zeros n (replicate n 0)
zeros n = record { size = length-replicate n 0; zero = get_d-zero n }

pub zero-rows : (n k : ℕ) → ZeroRows n k (replicate n (replicate k 0))
zero-rows n k = record { many = length-replicate n (replicate k 0); zero = λ r l. subst (Zeros k) (sym (get_or-replicate n r (replicate {A = ℕ} k 0) [] l)) (zeros k) }

pub zeros-member : {n : ℕ} {row : List ℕ} → Zeros n row → (j : ℕ) → member row j ≡ false
unfolding member
zeros-member z j = ap (λ (x : ℕ). bit x (j % 64)) (z.zero (j / 64)) ∙ bit-zero (j % 64)

-- one place more
pub insert-member : (row : List ℕ) (i j : ℕ) → i / 64 < length row
    → member (set row (i / 64) (bit_or (get_or row (i / 64) 0) (1 * 2 ^ (i % 64)))) j ≡ (member row j || eqb i j)
unfolding member
insert-member row i j h = go (ℕ_discrete (i / 64) (j / 64))
  where
    v : ℕ
    v = bit_or (get_or row (i / 64) 0) (1 * 2 ^ (i % 64))

    same_word : i / 64 ≡ j / 64 → eqb (i % 64) (j % 64) ≡ eqb i j
    same_word e = pick (ℕ_discrete i j)
      where
        pick : Dec (i ≡ j) → eqb (i % 64) (j % 64) ≡ eqb i j
        pick (yes d) = eq-eqb _ _ (ap (λ (z : ℕ). z % 64) d) ∙ sym (eq-eqb i j d)
        pick (no d) = ne_eqb (i % 64) (j % 64) (λ f. d (omega arith)) ∙ sym (ne_eqb i j d)

    go : Dec (i / 64 ≡ j / 64) → bit (get_or (set row (i / 64) v) (j / 64) 0) (j % 64) ≡ (bit (get_or row (j / 64) 0) (j % 64) || eqb i j)
    go (yes e) =
        ap (λ (k : ℕ). bit (get_or (set row (i / 64) v) k 0) (j % 64)) (sym e) ∙ ap (λ (x : ℕ). bit x (j % 64)) (get_or-set_same row (i / 64) v 0 h)
        ∙ bit-or _ _ (j % 64) ∙ ap₂ ◌||◌ (ap (λ (k : ℕ). bit (get_or row k 0) (j % 64)) e) (bit-pow (i % 64) (j % 64) ∙ same_word e)
    go (no e) =
        ap (λ (x : ℕ). bit x (j % 64)) (get_or-set_other row (i / 64) (j / 64) v 0 (λ f. e (sym f)))
        ∙ sym (ap (λ (y : Bool). bit (get_or row (j / 64) 0) (j % 64) || y) (ne_eqb i j (λ d. e (ap (λ (z : ℕ). z / 64) d))) ∙ or-false _)

-- ---- a row that is filled word by word

-- the words below k hold the set f, in a row as long as it was
pub record Filled (f : ℕ → Bool) (row₀ row : List ℕ) (k : ℕ) : Type 0 where
  pub same : length row ≡ length row₀
  pub within : k ≤ length row
  pub holds : (m : ℕ) → m < k → (b : ℕ) → b < 64 → bit (get_or row m 0) b ≡ f (m * 64 + b)

module _ (f : ℕ → Bool) (row₀ : List ℕ) where
  pub filled_none : Filled f row₀ row₀ 0
  filled_none = record { same = refl; within = omega arith; holds = λ m l. absurd (omega arith) }

  pub filled_more : (row : List ℕ) (k x : ℕ) → Filled f row₀ row k → k < length row → ((b : ℕ) → b < 64 → bit x b ≡ f (k * 64 + b)) → Filled f row₀ (set row k x) (k + 1)
  filled_more row k x w l h = record {
    same = length-set row k x ∙ w.same;
    within = simp length-set (omega arith);
    holds = below_more (λ m. (b : ℕ) → b < 64 → bit (get_or (set row k x) m 0) b ≡ f (m * 64 + b)) k
        (λ m d b c. ap (λ (y : ℕ). bit y b) (get_or-set_other row k m x 0 (omega arith)) ∙ w.holds m d b c)
        (λ b c. ap (λ (y : ℕ). bit y b) (get_or-set_same row k x 0 l) ∙ h b c);
  }

  -- a full row is the set, where the set has no place past the row's end
  pub filled-member : (row : List ℕ) (k : ℕ) → Filled f row₀ row k → length row ≤ k → ((j : ℕ) → length row₀ * 64 ≤ j → f j ≡ false) → (j : ℕ) → member row j ≡ f j
  unfolding member
  filled-member row k w h none j = go (dec_lt (j / 64) k)
    where
      go : Dec (j / 64 < k) → member row j ≡ f j
      go (yes l) = w.holds (j / 64) l (j % 64) (mod-lt j (zero-lt-suc 63)) ∙ ap f (div-add-mod' j 64)
      go (no l) = let e = w.same in member-beyond row j (omega arith) ∙ sym (none j (omega arith))

-- ---- two rows, word by word

-- a row that an operation made, where it says the same of two words as g of two tests
module _ {made : ℕ → ℕ → ℕ → Type 0} {a old new : List ℕ} (w : Combined made a old new) where
  pub combined-member : (g : Bool → Bool → Bool) → g false false ≡ false → length a ≡ length old
      → ((x y r : ℕ) → made x y r → (c : ℕ) → c < 64 → bit r c ≡ g (bit x c) (bit y c)) → (j : ℕ) → member new j ≡ g (member a j) (member old j)
  unfolding member
  combined-member g z s law j = go (dec_lt (j / 64) (length old))
    where
      go : Dec (j / 64 < length old) → member new j ≡ g (member a j) (member old j)
      go (yes l) = law (get_or a (j / 64) 0) (get_or old (j / 64) 0) (get_or new (j / 64) 0) (w.each (j / 64) l) (j % 64) (mod-lt j (zero-lt-suc 63))
      go (no l) =
          let e = w.same in
          member-beyond new j (omega arith) ∙ sym (ap₂ g (member-beyond a j (omega arith)) (member-beyond old j (omega arith)) ∙ z)
