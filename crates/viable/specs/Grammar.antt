-- A proof device: the spelling of conditions as a table, by which a text is read byte by byte. It promises nothing by itself: proofs/ holds it
-- to the spelling, both ways round.
use Rattle.std.specs.Prelude.{List, [], ◌∷◌, ◌++◌, Bool, ◌&&◌, ℕ, ◌+◌, ◌-◌, ◌*◌, ◌^◌, eqb, leb, ltb, get_or, drop}
use Rattle.base.specs.Bytes.{bytes, byte}
use Rattle.base.specs.Pick.{pick}
use Rattle.language.specs.Spelling.{variables, largest}

-- What is expected is a list of items: a capital letter stands for a part of the spelling, any other byte for itself. A row is an item, the
-- byte that it may begin with, and what is expected after that byte; `1` there is each of the digits 1 to 9.
-- C condition, Q after `E` or `A`, J and K between two conditions (H and L past the space), T after `tr`, Z after `e`, N number, V variable,
-- D its number, A operand, M after `-`; S statement, I past its `i`, X expression, R after its first operand, O past the space there: these
-- with the `)` that follows.
abbrev pub rows : List (List ℕ)
rows =
    bytes "C!C" ∷ bytes "CEQ" ∷ bytes "CAQ" ∷ bytes "C(CJC)" ∷ bytes "CtrT" ∷ bytes "Cfalse" ∷ bytes "CeZ"
    ∷ bytes "Cnode(N)" ∷ bytes "Cstmt(S" ∷ bytes "Cdef(V)" ∷ bytes "Cuse(V)"
    ∷ bytes "QX C" ∷ bytes "QF C" ∷ bytes "QG C" ∷ bytes "QY C" ∷ bytes "QR C" ∷ bytes "QM C" ∷ bytes "Q[CKC]"
    ∷ bytes "J H" ∷ bytes "H& " ∷ bytes "H| "
    ∷ bytes "K L" ∷ bytes "LU " ∷ bytes "LW " ∷ bytes "LS " ∷ bytes "LB "
    ∷ bytes "Tue" ∷ bytes "Tans(X" ∷ bytes "Zntry" ∷ bytes "Zxit"
    ∷ bytes "Sread V)" ∷ bytes "Swrite V)" ∷ bytes "Sskip)" ∷ bytes "SiI"
    ∷ bytes "If V goto N else N)" ∷ bytes "I0 := X" ∷ bytes "I1 := X"
    ∷ bytes "XiDR" ∷ bytes "X-MR" ∷ bytes "X0R" ∷ bytes "X1R" ∷ bytes "R)" ∷ bytes "R O"
    ∷ bytes "O+ A)" ∷ bytes "O- A)" ∷ bytes "O* A)" ∷ bytes "O< A)" ∷ bytes "O= A)" ∷ bytes "O/ A)"
    ∷ bytes "AiD" ∷ bytes "A-M" ∷ bytes "A0" ∷ bytes "A1" ∷ bytes "M1"
    ∷ bytes "ViD" ∷ bytes "D0" ∷ bytes "D1" ∷ bytes "N0" ∷ bytes "N1" ∷ []

-- what is expected after an item's first byte, if it may be that byte
pub data Expansion : Type 0 where
  word : List ℕ → Expansion
  none : Expansion

abbrev pub rule_in : List (List ℕ) → ℕ → ℕ → Expansion
rule_in [] i c = none
rule_in (r ∷ rs) i c = pick (eqb (get_or r 0 0) i && eqb (get_or r 1 0) c) (word (drop 2 r)) (rule_in rs i c)

abbrev pub nonzero : ℕ → Bool
nonzero c = leb (byte "1") c && leb c (byte "9")

abbrev pub class_of : ℕ → ℕ
class_of c = pick (nonzero c) (byte "1") c

abbrev pub capital : ℕ → Bool
capital i = leb (byte "A") i && leb i (byte "Z")

unfoldable pub expand : ℕ → ℕ → Expansion
expand i c = rule_in rows i (class_of c)

-- the numbers that an item may hold lie below this
unfoldable pub bound_of : ℕ → ℕ
bound_of i =
    pick (eqb i (byte "D")) variables
    (pick (eqb i (byte "I")) variables
    (pick (eqb i (byte "M")) (2 ^ 31 + 1) (largest + 1)))

-- Where the reading stands: digits may go on a number that is `value` so far, which is to stay below `bound` (0 is no number), and then the
-- items of the stack are expected.
pub data Reached : Type 0 where
  at : (bound value : ℕ) (stack : List ℕ) → Reached
  nowhere : Reached

unfoldable pub more : ℕ → ℕ → ℕ → Bool
more b n c = (leb (byte "0") c && leb c (byte "9")) && (ltb 0 n && ltb (n * 10 + (c - byte "0")) b)

abbrev pub opened : ℕ → ℕ → List ℕ → Reached
opened i c st = pick (nonzero c) (at (bound_of i) (c - byte "0") st) (at 0 0 st)

abbrev pub expanded : Expansion → ℕ → ℕ → List ℕ → Reached
expanded (word w) i c st = opened i c (w ++ st)
expanded none i c st = nowhere

abbrev pub by_top : List ℕ → ℕ → Reached
by_top [] c = nowhere
by_top (i ∷ st) c = pick (capital i) (expanded (expand i c) i c st) (pick (eqb i c) (at 0 0 st) nowhere)

unfoldable pub step : ℕ → ℕ → List ℕ → ℕ → Reached
step b n st c = pick (more b n c) (at b (n * 10 + (c - byte "0")) st) (by_top st c)

abbrev pub next : Reached → ℕ → Reached
next (at b n st) c = step b n st c
next nowhere c = nowhere

unfoldable pub steps : Reached → List ℕ → Reached
steps r [] = r
steps r (c ∷ l) = steps (next r c) l

abbrev pub start : Reached
start = at 0 0 (bytes "C")
