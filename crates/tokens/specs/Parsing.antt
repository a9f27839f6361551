-- A proof device: what each reader of words, numbers and variables finds at the front of a text, the readers' common language. It promises
-- nothing by itself: proofs/Numbers.antt and Constants.antt hold it to the spelling, both ways round.
use Rattle.std.specs.Prelude.{ℕ, zero, suc, ◌+◌, ◌-◌, ◌*◌, ◌^◌, List, [], ◌∷◌, Bool, true, false, ltb, leb, eqb, drop, Option, Some, None}
use Rattle.base.specs.Bytes.{byte, bytes}
use Rattle.base.specs.Pick.{pick}
use Rattle.language.specs.Spelling.{variables, largest}

-- what a reader finds: a value and the text after it, or that the text is not so spelled
pub data Parsed (A : Type 0) : Type 0 where
  found : A → List ℕ → Parsed A
  misspelled : Parsed A

-- one reader after another
abbrev pub after : {A B : Type 0} → Parsed A → (A → List ℕ → Parsed B) → Parsed B
after (found a t) f = f a t
after misspelled f = misspelled

-- one reader after another, or else
abbrev pub after_or : {A B : Type 0} → Parsed A → (A → List ℕ → Parsed B) → Parsed B → Parsed B
after_or (found a t) f p = f a t
after_or misspelled f p = p

-- where the test holds
abbrev pub where? : {B : Type 0} → Bool → Parsed B → Parsed B
where? true p = p
where? false p = misspelled

-- the second reader where the first finds nothing
abbrev pub either : {A : Type 0} → Parsed A → Parsed A → Parsed A
either (found a t) q = found a t
either misspelled q = q

-- past the word
unfoldable pub parse_word : List ℕ → List ℕ → Parsed Unit
parse_word [] l = found tt l
parse_word (w ∷ ws) [] = misspelled
parse_word (w ∷ ws) (c ∷ l) = where? (eqb c w) (parse_word ws l)

-- what a reader's answer says of the text: what was read, and the text behind it
abbrev pub parsed : {A : Type 0} → List ℕ → Option (A × ℕ) → Parsed A
parsed s (Some r) = found r.0 (drop r.1 s)
parsed s None = misspelled

-- the position after what was read
abbrev pub parsed_end : {A : Type 0} → Option (A × ℕ) → ℕ
parsed_end (Some r) = r.1
parsed_end None = 0

-- the same of a word, which has no value
abbrev pub passed : List ℕ → Option ℕ → Parsed Unit
passed s (Some k) = found tt (drop k s)
passed s None = misspelled

abbrev pub passed_end : Option ℕ → ℕ
passed_end (Some k) = k
passed_end None = 0

unfoldable pub digit_of : ℕ → Option ℕ
digit_of c = pick (leb (byte "0") c) (pick (leb c (byte "9")) (Some (c - byte "0")) None) None

-- by whether a byte is a digit
abbrev pub by_digit : Option ℕ → (ℕ → Parsed ℕ) → Parsed ℕ → Parsed ℕ
by_digit (Some d) f p = f d
by_digit None f p = p

-- the digits that follow n
unfoldable pub parse_digits : ℕ → List ℕ → Parsed ℕ
parse_digits n [] = found n []
parse_digits n (c ∷ l) = by_digit (digit_of c) (λ d. where? (leb (n * 10 + d) largest) (parse_digits (n * 10 + d) l)) (found n (c ∷ l))

-- no digit after a zero
unfoldable pub parse_zero : List ℕ → Parsed ℕ
parse_zero [] = found 0 []
parse_zero (c ∷ l) = by_digit (digit_of c) (λ d. misspelled) (found 0 (c ∷ l))

abbrev pub from_first : ℕ → List ℕ → Parsed ℕ
from_first zero l = parse_zero l
from_first (suc d) l = parse_digits (suc d) l

unfoldable pub parse_number : List ℕ → Parsed ℕ
parse_number [] = misspelled
parse_number (c ∷ l) = by_digit (digit_of c) (λ d. from_first d l) misspelled

-- the magnitude of the least constant, which is no number that stands without sign
abbrev pub least_word : List ℕ
least_word = bytes "2147483648"

-- the 32 bits of a constant, after its `-`
unfoldable pub parse_negative : List ℕ → Parsed ℕ
parse_negative l =
    after_or (parse_number l)
    (λ n t. where? (ltb 0 n) (found (2 ^ 32 - n) t))
    (after (parse_word least_word l) λ _ t. found (2 ^ 31) t)

unfoldable pub parse_constant : List ℕ → Parsed ℕ
parse_constant l = either (parse_number l) (after (parse_word (bytes "-") l) λ _ t. parse_negative t)

abbrev pub parse_statement_number : List ℕ → Parsed ℕ
parse_statement_number l = parse_number l

unfoldable pub parse_variable : List ℕ → Parsed ℕ
parse_variable l =
    after (parse_word (bytes "i") l) λ _ t.
    after (parse_number t) λ n u.
    where? (ltb n variables) (found n u)
