-- How long the words for a slip are. Assumes nothing.
use mathlib.Core.Path.{◌≡◌}
use mathlib.Core.Bool.{Bool, true, false, not, ◌&&◌}
use mathlib.Core.List.{List, [], ◌∷◌, ◌++◌}
use Prim.Native.Nat.{ℕ, zero, suc, ◌+◌, ◌*◌, ◌-◌, ◌^◌, ◌≤◌, ◌<◌, min}
use native.Mathlib.Omega.{arith}
use lib.Dec.{eqb}
use lib.ListN.{length, length-append}
use Rattle.base.specs.Bytes.{byte, bytes}
use Rattle.base.specs.Pick.{pick}
use Rattle.language.specs.Spelling.{digits}
use Rattle.language.specs.Room.{number_digits}
use Rattle.language.proofs.Lengths.{number-most}
use Rattle.slips.specs.Slips.{most_number, is_digit, some, marked, value_behind, outside, spelled_slip, named, first_outside, line_slip, line_text, count_behind, target_slip, program_slip, list_slip}
use Rattle.slips.specs.Words.{quoted, slip_words, slip_room}
use Rattle.slips.specs.declared.Slip.{Slip}
use Rattle.slips.specs.declared.Slip.TheVariants.{Nothing, ByteOrderMark, CarriageReturn, Tab, LineEnd, Space, Brackets, Early, Variable, Negative, Number, Target}
use Rattle.slips.specs.declared.Sign.TheVariants as sign
use Rattle.slips.specs.declared.Range.{Range}
use Rattle.slips.specs.declared.Range.TheVariants.{Spelled, Targets}

-- its numbers are told
abbrev pub Told : Slip → Type 0
Told Nothing = Unit
Told ByteOrderMark = Unit
Told CarriageReturn = Unit
Told Tab = Unit
Told LineEnd = Unit
Told Space = Unit
Told Brackets = Unit
Told Early = Unit
Told (Variable v) = v ≤ most_number
Told (Negative v) = v ≤ most_number
Told (Number v) = v ≤ most_number
Told (Target v n) = (v ≤ most_number) × (n ≤ most_number)

one-length : (b : Bool) → length (pick b (bytes "` or more") (bytes "`")) ≤ 9
one-length true = omega arith
one-length false = omega arith

quoted-most : (before : List ℕ) (v : ℕ) → v ≤ most_number → length (quoted before v) ≤ 3 + (length before + (number_digits + 9))
unfolding quoted
quoted-most before v h = simp length-append (omega (arith, number-most v (omega arith), one-length (eqb v most_number)))

pub slip-most : (s : Slip) → Told s → length (slip_words s) ≤ slip_room
unfolding slip_words
slip-most Nothing h = omega arith
slip-most ByteOrderMark h = omega arith
slip-most CarriageReturn h = omega arith
slip-most Tab h = omega arith
slip-most LineEnd h = omega arith
slip-most Space h = omega arith
slip-most Brackets h = omega arith
slip-most Early h = omega arith
slip-most (Variable v) h = simp length-append (omega (arith, quoted-most (bytes "i") v h))
slip-most (Negative v) h = simp length-append (omega (arith, quoted-most (bytes "-") v h))
slip-most (Number v) h = simp length-append (omega (arith, quoted-most [] v h))
slip-most (Target v n) h = simp length-append (omega (arith, quoted-most [] v h.0, number-most n (omega (arith, h.1))))

value-most : (v : ℕ) (l : List ℕ) → v ≤ most_number → value_behind v l ≤ most_number
unfolding value_behind
value-most v [] h = h
value-most v (c ∷ l) h = go (is_digit c) (value-most (min (v * 10 + (c - byte "0")) most_number) l (omega arith))
  where
    go : (b : Bool) → value_behind (min (v * 10 + (c - byte "0")) most_number) l ≤ most_number → pick b (value_behind (min (v * 10 + (c - byte "0")) most_number) l) v ≤ most_number
    go true k = k
    go false k = h

count_most : (n : ℕ) (l : List ℕ) → n ≤ most_number → count_behind n l ≤ most_number
unfolding count_behind
count_most n [] h = h
count_most n (c ∷ l) h = count_most (pick (eqb c 10) (min (n + 1) most_number) n) l (go (eqb c 10))
  where
    go : (b : Bool) → pick b (min (n + 1) most_number) n ≤ most_number
    go true = omega arith
    go false = h

pub either : (b : Bool) (s u : Slip) → Told s → Told u → Told (pick b s u)
either true s u h k = h
either false s u h k = k

abbrev RangeTold : Range → Type 0
RangeTold Spelled = Unit
RangeTold (Targets n) = n ≤ most_number

named-told : (r : Range) (p v : ℕ) → RangeTold r → v ≤ most_number → Told (named r p v)
named-told Spelled p v k h = either (eqb p (byte "i")) _ _ h (either (eqb p (byte "-")) _ _ h h)
named-told (Targets n) p v k h = (h, k)

outside_told : (r : Range) (p n : ℕ) (l : List ℕ) → RangeTold r → Told (first_outside r p n l)
unfolding first_outside
outside_told r p zero l k = tt
outside_told r p (suc n) [] k = tt
outside_told r p (suc n) (c ∷ l) k =
    either ((is_digit c && not (is_digit p)) && outside r p (value_behind 0 (c ∷ l))) _ _ (named-told r p (value_behind 0 (c ∷ l)) k (value-most 0 (c ∷ l) (omega arith))) (outside_told r c n l k)

pub spelled-told : (p n : ℕ) (l : List ℕ) → Told (first_outside Spelled p n l)
spelled-told p n l = outside_told Spelled p n l tt

pub line-told : (l : List ℕ) → Told (line_slip l)
unfolding line_slip
line-told l =
    either (marked l) _ _ tt
    (either (some sign.Return 10 l) _ _ tt
    (either (some sign.Tab 10 l) _ _ tt
    (either (some sign.Space 10 l) _ _ tt
    (either (some sign.Bracket 10 l) _ _ tt (spelled-told 10 (length l) l)))))

pub program-told : (t : List ℕ) (n line : ℕ) → Told (program_slip t n line)
unfolding program_slip
program-told t n line =
    either (eqb n 2) _ _ (line-told (line_text line t))
    (either (eqb n 5) _ _ (outside_told (Targets (count_behind 0 t)) 10 (length (line_text line t)) (line_text line t) (count_most 0 t (omega arith))) tt)

pub list-told : (t u : List ℕ) (n line : ℕ) → Told (list_slip t u n line)
unfolding list_slip
list-told t u n line = either (eqb n 9) _ _ (line-told (line_text line u)) (program-told t n line)
