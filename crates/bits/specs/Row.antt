-- Sets of places as rows of 64-bit words. Document 01 counts statements from 1, a row counts places from 0: "bit b of word w of those
-- four is statement 64w+b+1" is place 64w+b here.
use Rattle.std.specs.Prelude.{◌≡◌, List, [], Bool, true, false, ℕ, zero, suc, ◌+◌, ◌*◌, ◌/◌, ◌%◌, ◌^◌, ◌≤◌, ◌<◌, length, get_or, take, drop, eqb}

-- the most words of a row whose members are counted, the code's WORDS
abbrev pub words : ℕ
words = 16

-- bit b of a word
unfoldable pub bit : ℕ → ℕ → Bool
bit x b = eqb (x / 2 ^ b % 2) 1

-- "bit b of word w": whether place j is in the set; no place past the row's end is
unfoldable pub member : List ℕ → ℕ → Bool
unfolding bit
member row j = bit (get_or row (j / 64) 0) (j % 64)

-- 1 where the test holds
abbrev pub one : Bool → ℕ
one true = 1
one false = 0

-- "how many statements satisfy it": how many of the places below n are in the set
unfoldable pub count_below : (ℕ → Bool) → ℕ → ℕ
count_below f zero = 0
count_below f (suc n) = count_below f n + one (f n)

-- "and the first of them": r is the first place of the set below n, or n where there is none
pub record First (f : ℕ → Bool) (n r : ℕ) : Type 0 where
  pub within : r ≤ n
  pub before : (j : ℕ) → j < r → f j ≡ false
  pub found : r < n → f r ≡ true

-- n zeros
pub record Zeros (n : ℕ) (row : List ℕ) : Type 0 where
  pub size : length row ≡ n
  pub zero : (i : ℕ) → get_or row i 0 ≡ 0

-- n rows of k zeros
pub record ZeroRows (n k : ℕ) (rows : List (List ℕ)) : Type 0 where
  pub many : length rows ≡ n
  pub zero : (r : ℕ) → r < n → Zeros k (get_or rows r [])

-- two rows and a third are equally long
pub record Alike (a b out : List ℕ) : Type 0 where
  pub left : length a ≡ length out
  pub right : length b ≡ length out

-- each word of `new` is one that the operation may make of the words of `a` and `b`
pub record Combined (made : ℕ → ℕ → ℕ → Type 0) (a b new : List ℕ) : Type 0 where
  pub same : length new ≡ length b
  pub each : (k : ℕ) → k < length b → made (get_or a k 0) (get_or b k 0) (get_or new k 0)

-- row k of words that stand in rows of w words each
abbrev pub row_of : ℕ → List ℕ → ℕ → List ℕ
row_of w ws k = take w (drop (w * k) ws)

-- the words are as they were, but for the n from `at` on
pub record Kept (old new : List ℕ) (at n : ℕ) : Type 0 where
  pub same : length new ≡ length old
  pub before : (m : ℕ) → m < at → get_or new m 0 ≡ get_or old m 0
  pub past : (m : ℕ) → at + n ≤ m → get_or new m 0 ≡ get_or old m 0
