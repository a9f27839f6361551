-- The usual slips in a line that is refused, by its bytes alone. The line stands without its byte 10.
use Rattle.std.specs.Prelude.{Bool, true, false, not, ◌&&◌, ◌||◌, List, [], ◌∷◌, ℕ, zero, suc, ◌+◌, ◌-◌, ◌*◌, min, eqb, leb, ltb, length}
use Rattle.base.specs.Bytes.{byte}
use Rattle.base.specs.Pick.{pick}
use Rattle.language.specs.Spelling.{variables, largest}
use Rattle.slips.specs.declared.Slip.{Slip}
use Rattle.slips.specs.declared.Slip.TheVariants as slip
use Rattle.slips.specs.declared.Sign.{Sign}
use Rattle.slips.specs.declared.Sign.TheVariants as sign
use Rattle.slips.specs.declared.Range.{Range}
use Rattle.slips.specs.declared.Range.TheVariants as range

-- what the byte c behind the byte p shows: a space too many is one beside another, or at the begin or the end of a line; a bracket is
-- superfluous but in `mark(`
abbrev pub shows : Sign → ℕ → ℕ → Bool
shows sign.Return p c = eqb c 13
shows sign.Tab p c = eqb c 9
shows sign.Space p c = (eqb p (byte " ") && (eqb c (byte " ") || eqb c 10)) || (eqb p 10 && eqb c (byte " "))
shows sign.Bracket p c = eqb c (byte "(") && not (eqb p (byte "k"))

-- some byte of the line behind p shows it; a byte 10 follows the line
unfoldable pub some : Sign → ℕ → List ℕ → Bool
some s p [] = shows s p 10
some s p (c ∷ l) = shows s p c || some s c l

-- the line begins with the bytes EF BB BF
unfoldable pub marked : List ℕ → Bool
marked (a ∷ b ∷ c ∷ l) = eqb a 239 && (eqb b 187 && eqb c 191)
marked (a ∷ b ∷ []) = false
marked (a ∷ []) = false
marked [] = false

abbrev pub is_digit : ℕ → Bool
is_digit c = leb (byte "0") c && leb c (byte "9")

-- a number is told up to this one; what is larger is told as this one or more
abbrev pub most_number : ℕ
most_number = 4294967295

-- the number that the digits at the front of the text make behind those of v
unfoldable pub value_behind : ℕ → List ℕ → ℕ
value_behind v [] = v
value_behind v (c ∷ l) = pick (is_digit c) (value_behind (min (v * 10 + (c - byte "0")) most_number) l) v

-- the largest number that is spelled behind the byte p: `i63`, `-2147483648` and 2147483647
abbrev pub largest_behind : ℕ → ℕ
largest_behind p = pick (eqb p (byte "i")) (variables - 1) (pick (eqb p (byte "-")) (largest + 1) largest)

-- the number v behind the byte p is outside what is spelled, or is a target outside 2 to N
abbrev pub outside : Range → ℕ → ℕ → Bool
outside range.Spelled p v = ltb (largest_behind p) v
outside (range.Targets N) p v = not (eqb p (byte "i")) && (ltb v 2 || ltb N v)

abbrev pub spelled_slip : ℕ → ℕ → Slip
spelled_slip p v = pick (eqb p (byte "i")) (slip.Variable v) (pick (eqb p (byte "-")) (slip.Negative v) (slip.Number v))

abbrev pub named : Range → ℕ → ℕ → Slip
named range.Spelled p v = spelled_slip p v
named (range.Targets N) p v = slip.Target v N

-- the first number that is outside, of those that begin in the first n bytes of the text behind p
unfoldable pub first_outside : Range → ℕ → ℕ → List ℕ → Slip
first_outside r p zero l = slip.Nothing
first_outside r p (suc n) [] = slip.Nothing
first_outside r p (suc n) (c ∷ l) =
    let v : ℕ = value_behind 0 (c ∷ l) in
    pick ((is_digit c && not (is_digit p)) && outside r p v) (named r p v) (first_outside r c n l)

-- the first that applies
unfoldable pub line_slip : List ℕ → Slip
line_slip l =
    pick (marked l) slip.ByteOrderMark
    (pick (some sign.Return 10 l) slip.CarriageReturn
    (pick (some sign.Tab 10 l) slip.Tab
    (pick (some sign.Space 10 l) slip.Space
    (pick (some sign.Bracket 10 l) slip.Brackets
    (first_outside range.Spelled 10 (length l) l)))))

-- the text from its line n on, counted from 1
unfoldable pub from_line : ℕ → List ℕ → List ℕ
from_line n [] = []
from_line n (c ∷ l) = pick (ltb 1 n) (from_line (pick (eqb c 10) (n - 1) n) l) (c ∷ l)

-- the text up to its first byte 10
unfoldable pub up_to_end : List ℕ → List ℕ
up_to_end [] = []
up_to_end (c ∷ l) = pick (eqb c 10) [] (c ∷ up_to_end l)

abbrev pub line_text : ℕ → List ℕ → List ℕ
line_text n t = up_to_end (from_line n t)

-- n and the lines of the text, each with its byte 10
unfoldable pub count_behind : ℕ → List ℕ → ℕ
count_behind n [] = n
count_behind n (c ∷ l) = count_behind (pick (eqb c 10) (min (n + 1) most_number) n) l

abbrev pub target_slip : List ℕ → List ℕ → Slip
target_slip t l = first_outside (range.Targets (count_behind 0 t)) 10 (length l) l

-- the slip on the line of the program text t that the refusal n is about: 2 has any, 5 a target
unfoldable pub program_slip : List ℕ → ℕ → ℕ → Slip
program_slip t n line =
    pick (eqb n 2) (line_slip (line_text line t))
    (pick (eqb n 5) (target_slip t (line_text line t))
    slip.Nothing)

-- the same with the list u of marks, for 9
unfoldable pub list_slip : List ℕ → List ℕ → ℕ → ℕ → Slip
list_slip t u n line = pick (eqb n 9) (line_slip (line_text line u)) (program_slip t n line)
