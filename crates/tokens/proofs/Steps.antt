-- A reader's step at a position of the text, as a law of its definition.
use mathlib.Core.Path.{◌≡◌, refl}
use mathlib.Core.List.{List, [], ◌∷◌}
use mathlib.Core.Bool.{Bool, true, false}
use Prim.Native.Nat.{ℕ, zero, suc, ◌+◌, ◌-◌, ◌*◌, ◌≤◌, ◌<◌}
use native.Mathlib.Numerals.{add-one}
use lib.Dec.{leb}
use lib.ListN.{length, get_or, drop, drop_of_length-le}
use lib.Seq.{drop-cons}
use borrow.Author.Tests.{le-leb, lt-leb, eq-eqb, ne_eqb, leb-true}
use native.Mathlib.Omega.{arith}
use Rattle.std.proofs.Common.{if◌then◌else◌}
use Rattle.std.specs.Char.{is_ascii_digit}
use Rattle.base.specs.Pick.{pick}
use Rattle.language.specs.Spelling.{largest}
use Rattle.std.specs.Prelude.{Some, None}
use Rattle.tokens.specs.Parsing.{found, misspelled, parse_word, digit_of, parse_zero, parse_digits, from_first}

pub at-end : (s : List ℕ) (k : ℕ) → length s ≤ k → drop k s ≡ []
at-end s k h = drop_of_length-le s h

pub at_byte : (s : List ℕ) (k : ℕ) → k < length s → drop k s ≡ get_or s k 0 ∷ drop (k + 1) s
at_byte s k h = rw (add-one, drop-cons s k 0)

module _ (w s : List ℕ) (i k : ℕ) where
  pub skip-end : i < length w → length s ≤ k → parse_word (drop i w) (drop k s) ≡ misspelled
  unfolding parse_word
  skip-end h e = rw (at_byte w i h, at-end s k e)

  pub skip-other : i < length w → k < length s → (get_or s k 0 ≡ get_or w i 0 → ⊥) → parse_word (drop i w) (drop k s) ≡ misspelled
  unfolding parse_word
  skip-other h e d = rw (at_byte w i h, at_byte s k e, ne_eqb _ _ d)

  pub skip-same : i < length w → k < length s → get_or s k 0 ≡ get_or w i 0 → parse_word (drop i w) (drop k s) ≡ parse_word (drop (i + 1) w) (drop (k + 1) s)
  unfolding parse_word
  skip-same h e d = rw (at_byte w i h, at_byte s k e, eq-eqb _ _ d)

  pub skip-done : length w ≤ i → parse_word (drop i w) (drop k s) ≡ found tt (drop k s)
  unfolding parse_word
  skip-done h = rw (at-end w i h)

-- a digit's value is below 10, and the byte is 48 more
pub digit-byte : (c d : ℕ) → Some d ≡ digit_of c → (d < 10) × (c ≡ 48 + d)
unfolding digit_of
digit-byte c d e = go (leb 48 c) (leb c 57) refl refl e
  where
    go : (a b : Bool) → leb 48 c ≡ a → leb c 57 ≡ b → Some d ≡ pick a (pick b (Some (c - 48)) None) None → (d < 10) × (c ≡ 48 + d)
    go true true p q r = let z : d ≡ c - 48 = cc in omega (arith, leb-true 48 c p, leb-true c 57 q)
    go true false p q r = let z : ◌≡◌ {A = ℕ} 0 1 = cc in omega arith
    go false true p q r = let z : ◌≡◌ {A = ℕ} 0 1 = cc in omega arith
    go false false p q r = let z : ◌≡◌ {A = ℕ} 0 1 = cc in omega arith

-- a byte is a digit as std has it
pub digit-cases : (c : ℕ) → digit_of c ≡ (if is_ascii_digit c then Some (c - 48) else None)
unfolding digit_of
digit-cases c = go (leb 48 c) (leb c 57) refl refl
  where
    go : (a b : Bool) → leb 48 c ≡ a → leb c 57 ≡ b → pick (leb 48 c) (pick (leb c 57) (Some (c - 48)) None) None ≡ (if is_ascii_digit c then Some (c - 48) else None)
    go true true p q = rw (p, q)
    go true false p q = rw (p, q)
    go false b p q = rw (p)

pub digit-is : (c : ℕ) → is_ascii_digit c ≡ true → digit_of c ≡ Some (c - 48)
digit-is c h = rw (digit-cases c, h)

pub digit-none : (c : ℕ) → is_ascii_digit c ≡ false → digit_of c ≡ None
digit-none c h = rw (digit-cases c, h)

pub digit-small : (c d : ℕ) → Some d ≡ digit_of c → d < 10
digit-small c d e = (digit-byte c d e).0

pub more-none : {n : ℕ} → parse_digits n [] ≡ found n []
unfolding parse_digits
more-none = refl

module _ (s : List ℕ) (n k : ℕ) where
  pub more-other : k < length s → None ≡ digit_of (get_or s k 0) → parse_digits n (drop k s) ≡ found n (drop k s)
  unfolding parse_digits
  more-other h e = rw (at_byte s k h, ← e)

  pub more-over : (d : ℕ) → k < length s → Some d ≡ digit_of (get_or s k 0) → largest < n * 10 + d → parse_digits n (drop k s) ≡ misspelled
  unfolding parse_digits
  more-over d h e o = rw (at_byte s k h, ← e, lt-leb _ _ o)

  pub more-next : (d : ℕ) → k < length s → Some d ≡ digit_of (get_or s k 0) → n * 10 + d ≤ largest → parse_digits n (drop k s) ≡ parse_digits (n * 10 + d) (drop (k + 1) s)
  unfolding parse_digits
  more-next d h e o = rw (at_byte s k h, ← e, le-leb _ _ o)

pub first-zero : (d : ℕ) (l : List ℕ) → d ≡ 0 → from_first d l ≡ parse_zero l
first-zero d l e = rw e

pub first_more : (d : ℕ) (l : List ℕ) → (d ≡ 0 → ⊥) → from_first d l ≡ parse_digits d l
first_more zero l f = absurd (f refl)
first_more (suc d) l f = refl
