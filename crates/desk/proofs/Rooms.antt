-- How long a refusal's text is. Assumes nothing.
use mathlib.Core.Path.{◌≡◌, refl}
use mathlib.Core.Bool.{Bool, true, false, ◌&&◌}
use mathlib.Core.List.{List, [], ◌∷◌}
use Prim.Native.Nat.{ℕ, ◌+◌, ◌-◌, ◌^◌, ◌≤◌, ◌<◌}
use native.Mathlib.Omega.{arith}
use lib.Dec.{eqb, leb}
use borrow.Author.Tests.{leb-true}
use lib.ListN.{length, length-append}
use Rattle.base.proofs.Bools.{and_left, and_right}
use Rattle.base.specs.Bytes.{bytes}
use Rattle.base.specs.Pick.{pick}
use Rattle.language.specs.Spelling.{digits}
use Rattle.language.specs.Room.{number_digits}
use Rattle.language.proofs.Lengths.{digits-length, number-most}
use Rattle.desk.specs.Refusals.{Row, whole, on_line, refusals, words_in, refusal_words, refusal_text, refusal_room}

pub refusal-length : (n line : ℕ) → length (refusal_text n line) ≡ 8 + (length (digits n) + (1 + (length (refusal_words n line) + 1)))
unfolding refusal_text
refusal-length n line = simp length-append (omega arith)

-- the digits of a refusal's number, which is a byte; what is left for its words
abbrev byte_digits : ℕ
byte_digits = 3

abbrev words_room : ℕ
words_room = refusal_room - (8 + (byte_digits + 2))

-- every row has room in m bytes, with a line's number of 32 bits
abbrev short : List Row → ℕ → Bool
short [] m = true
short (whole n text ∷ rows) m = leb (length (bytes text)) m && short rows m
short (on_line n before after ∷ rows) m = leb (length (bytes before) + (number_digits + length (bytes after))) m && short rows m

module _ (n line m : ℕ) (near : line < 2 ^ 32) where
  one-most : (b : Bool) (xs ys : List ℕ) → length xs ≤ m → length ys ≤ m → length (pick b xs ys) ≤ m
  one-most true xs ys h k = h
  one-most false xs ys h k = k

  table-most : (rows : List Row) → short rows m ≡ true → length (words_in rows n line) ≤ m
  table-most [] h = omega arith
  table-most (whole k text ∷ rows) h =
      let b = leb (length (bytes text)) m in
      one-most (eqb n k) _ _ (leb-true _ m (and_left b (short rows m) h)) (table-most rows (and_right b (short rows m) h))
  table-most (on_line k before after ∷ rows) h =
      let d = number-most line near in
      let b = leb (length (bytes before) + (number_digits + length (bytes after))) m in
      let l = leb-true (length (bytes before) + (number_digits + length (bytes after))) m (and_left b (short rows m) h) in
      one-most (eqb n k) _ _ (simp length-append (omega arith)) (table-most rows (and_right b (short rows m) h))

words-most : (n line : ℕ) → line < 2 ^ 32 → length (refusal_words n line) ≤ words_room
unfolding refusal_words
words-most n line h = table-most n line words_room h refusals refl

-- numbers of a byte and lines of 32 bits
pub refusal-most : (n line : ℕ) → n < 2 ^ 8 → line < 2 ^ 32 → length (refusal_text n line) ≤ refusal_room
refusal-most n line h k = omega (arith, refusal-length n line, digits-length byte_digits n (omega arith) (omega arith), words-most n line k)
