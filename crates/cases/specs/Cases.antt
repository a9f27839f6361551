-- Document 01's starred cases as one list, and what each claims of the definitions: "A program to check against".
use Rattle.std.specs.Prelude.{◌≡◌, List, [], ◌∷◌, ◌++◌, true, ◌↔◌, ℕ, ◌^◌, ◌≤◌, ◌<◌, ℤ, pos, length, get_or, drop}
use Prim.Native.String.{String}
use Rattle.base.specs.Bytes.{bytes}
use Rattle.language.specs.Spelling.{variables}
use Rattle.language.specs.Kept.{kept_of}
use Rattle.language.specs.declared.Statement.{Statement}
use Rattle.program.specs.Program as program
use Rattle.pricing.specs.Prices.{ours}
use Rattle.machine.specs.declared.Answer.TheVariants.{Ended, Spent}
use Rattle.machine.specs.Answer.{Answers}
use Rattle.bits.specs.Row.{bit}
use Rattle.condition.specs.Condition.{Condition, parts}
use Rattle.condition.specs.Texts as condition
use Rattle.truth.specs.Truth.{Sat}
use Rattle.table.specs.Table.{part_at}
use Rattle.report.specs.Report.{PrintsReport}

-- "each line ended by byte 10"
unfoldable pub lines : List String → List ℕ
lines [] = []
lines (s ∷ l) = bytes s ++ 10 ∷ lines l

-- "P is: .."
unfoldable pub P-text : List ℕ
unfolding lines
P-text =
    lines
    ("read i0"
    ∷ "i1 := i0"
    ∷ "i2 := 7"
    ∷ "i3 := i1 + i2"
    ∷ "if i0 goto 6 else 8"
    ∷ "i0 := i0 - 1"
    ∷ "if i0 goto 4 else 8"
    ∷ "write i3"
    ∷ [])

pub data Case : Type 0 where
  -- a condition's text, and word 0 of each of its parts
  table : String → List ℕ → Case
  -- an input, the value with which P's run ends, and the steps and ticks taken
  ends : ℕ → ℤ → ℕ → ℕ → Case
  -- an input, a budget, the statement before which it is spent, the ticks taken, and the values of `i0` and so on then; the others are the starting ones
  spent : ℕ → ℕ → ℕ → ℕ → List ℕ → Case
  -- the lines of `marks`, and those that the check program prints, where `given` is P
  check : List String → List String → Case

-- "Word 0 on P: ..", "Input 0 ends with 7 after 6 steps. Input 2 ends with 9 after 12; budget 11 is spent.", "The check program reads P
-- .. and these lines ..: .. It prints ..". Document 02: "For P and document 01's marks these are 24, 24 and 0." Document 01 gives the words of all parts for the first condition, and that of the last part for
-- the others
abbrev pub cases : List Case
cases =
    table "E[!def(i2) U use(i2)]" (4 ∷ 251 ∷ 8 ∷ 120 ∷ [])
    ∷ table "A[true U exit]" (255 ∷ 128 ∷ 128 ∷ [])
    ∷ table "A[true W exit]" (255 ∷ 128 ∷ 255 ∷ [])
    ∷ table "EX exit" (128 ∷ 208 ∷ [])
    ∷ table "AX exit" (128 ∷ 128 ∷ [])
    ∷ table "EY entry" (1 ∷ 3 ∷ [])
    ∷ table "AM !def(i2)" (4 ∷ 251 ∷ 3 ∷ [])
    ∷ table "EM !def(i2)" (4 ∷ 251 ∷ 251 ∷ [])
    ∷ ends 0 (pos 7) 6 18
    ∷ ends 2 (pos 9) 12 36
    ∷ spent 2 11 8 32 (0 ∷ 2 ∷ 7 ∷ 9 ∷ [])
    ∷ check
    ("4: mark(rpl, i2, 7)"
    ∷ "3: mark(rm, i2, 7)"
    ∷ "4: mark(rpl, i1, i0)"
    ∷ "6: mark(rm, i0, 1)"
    ∷ "9: mark(rm, i2, 7)"
    ∷ [])
    ("marks 5 accepted 1"
    ∷ "4 0"
    ∷ "3 14"
    ∷ "4 12"
    ∷ "6 13"
    ∷ "9 11"
    ∷ "read i0"
    ∷ "i1 := i0"
    ∷ "i2 := 7"
    ∷ "i3 := i1 + 7"
    ∷ "if i0 goto 6 else 8"
    ∷ "i0 := i0 - 1"
    ∷ "if i0 goto 4 else 8"
    ∷ "write i3"
    ∷ "1 4 4"
    ∷ "2 2 2"
    ∷ "3 2 2"
    ∷ "4 3 3"
    ∷ "5 3 3"
    ∷ "6 3 3"
    ∷ "7 3 3"
    ∷ "8 4 4"
    ∷ "24"
    ∷ "24"
    ∷ "0"
    ∷ [])
    ∷ []

-- x is word 0 of the part p on the program P: "bit b of word w of those four is statement 64w+b+1; bits beyond N are 0"
pub record WordZero (P : List Statement) (p : Condition) (x : ℕ) : Type 0 where
  pub word : x < 2 ^ 64
  pub bits : (b : ℕ) → b < 64 → (bit x b ≡ true) ↔ ((b < length P) × Sat P p b)

-- the text t is taken as a condition, and the words ws are word 0 of each of its parts
pub record Tabulates (P : List Statement) (t ws : List ℕ) : Type 0 where
  pub c : Condition
  pub taken : condition.Taken t c
  pub counted : length ws ≡ length (parts c)
  pub words : (k : ℕ) → k < length ws → WordZero P (part_at c k) (get_or ws k 0)

-- P's text is taken as a program of which X is true
abbrev pub OnP : (List Statement → Type 0) → Type 0
OnP X = (P : List Statement) × program.Taken P-text P × X P

-- what a case claims; of a run, for all starting values, the eight kept ones of which P leaves as they are, and where it ends, under every
-- budget that is enough
abbrev pub Is : Case → Type 0
Is (table t ws) = OnP λ P. Tabulates P (bytes t) ws
Is (ends input value steps t) =
    OnP λ P. (vs : List ℕ) → length vs ≡ variables → (budget : ℕ) → steps ≤ budget → Answers ours P vs input budget (Ended value steps t) vs (kept_of vs)
Is (spent input budget n t us) =
    OnP λ P. (vs : List ℕ) → length vs ≡ variables → Answers ours P vs input budget (Spent n t) (us ++ drop (length us) vs) (kept_of vs)
Is (check ms out) = PrintsReport P-text (lines ms) (lines out)

-- X is true of each member of the list
abbrev pub Each : {A : Type 0} → (A → Type 0) → List A → Type 0
Each X [] = Unit
Each X (x ∷ l) = X x × Each X l
