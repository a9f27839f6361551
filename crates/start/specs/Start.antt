-- What a start is: the input, the budget and up to 64 starting values, one a line, each ended by byte 10. A value may name its variable.
use Rattle.std.specs.Prelude.{◌≡◌, List, [], ◌∷◌, ◌++◌, ℕ, suc, ◌+◌, ◌^◌, ◌≤◌, ◌<◌, eqb, length, get_or, set, replicate, Result, Ok, Err}
use Rattle.base.specs.Bytes.{bytes}
use Rattle.lines.specs.Lines.{NoLine}
use Rattle.language.specs.Spelling.{variables, digits, spell_constant, ValidConstant, spell_variable, ValidVariable}
use Rattle.base.specs.Pick.{pick}
use Rattle.start.specs.declared.Entry.{Entry}
use Rattle.start.specs.declared.Entry.TheVariants.{Plain, Named}
use Rattle.start.specs.declared.Start.{Start}
use Rattle.start.specs.declared.Wrong.{Wrong}
use Rattle.start.specs.declared.Wrong.TheVariants.{Few, Many, Line, Unended}

abbrev pub fewest : ℕ
fewest = 2

abbrev pub most : ℕ
most = 2 + variables

-- the numbers of a start: 0 is the input, 1 the budget, and 2 + x the value of variable x. The one that a line gives, where number k is next
abbrev pub place : ℕ → Entry → ℕ
place k (Plain v) = k
place k (Named x v) = 2 + x

abbrev pub value : Entry → ℕ
value (Plain v) = v
value (Named x v) = v

-- the budget is spelled without sign; each other number as a constant, alone or as `i13 = 40`
abbrev pub spell_line : ℕ → Entry → List ℕ
spell_line k (Plain v) = pick (eqb k 1) (digits v) (spell_constant v)
spell_line k (Named x v) = spell_variable x ++ (bytes " = " ++ spell_constant v)

-- the budget is 0 to 2147483647; values may be named, each variable after those given before it
abbrev pub RightLine : ℕ → Entry → Type 0
RightLine k (Plain v) = (k < most) × (v < pick (eqb k 1) (2 ^ 31) (2 ^ 32))
RightLine k (Named x v) = (fewest ≤ k) × (k ≤ 2 + x) × ValidVariable x × ValidConstant v

-- the lines, from number k on
unfoldable pub start_lines : ℕ → List Entry → List ℕ
start_lines k [] = []
start_lines k (e ∷ ls) = spell_line k e ++ 10 ∷ start_lines (suc (place k e)) ls

abbrev pub AllRight : ℕ → List Entry → Type 0
AllRight k [] = Unit
AllRight k (e ∷ ls) = RightLine k e × AllRight (suc (place k e)) ls

-- the number that is next after them
abbrev pub reached : ℕ → List Entry → ℕ
reached k [] = k
reached k (e ∷ ls) = reached (suc (place k e)) ls

-- the numbers ns with those of the lines put to their places
unfoldable pub filled : ℕ → List Entry → List ℕ → List ℕ
filled k [] ns = ns
filled k (e ∷ ls) ns = filled (suc (place k e)) ls (set ns (place k e) (value e))

-- those that no line gives are 0
abbrev pub numbers_of : List Entry → List ℕ
numbers_of ls = filled 0 ls (replicate most 0)

-- the text t begins with the right lines ls, and `rest` is left
pub record Begins (t : List ℕ) (ls : List Entry) (rest : List ℕ) : Type 0 where
  pub lines : t ≡ start_lines 0 ls ++ rest
  pub right : AllRight 0 ls

-- the text t is a start
pub record StartTaken (t : List ℕ) (input budget : ℕ) (values : List ℕ) : Type 0 where
  pub ls : List Entry
  pub begins : Begins t ls []
  pub counted : fewest ≤ length ls
  pub first : input ≡ get_or (numbers_of ls) 0 0
  pub second : budget ≡ get_or (numbers_of ls) 1 0
  pub size : length values ≡ variables
  pub others : (x : ℕ) → x < variables → get_or values x 0 ≡ get_or (numbers_of ls) (2 + x) 0

-- no right line stands at the front of the text, with its byte 10 or without it as all that is left
pub record NoRight (k : ℕ) (rest : List ℕ) : Type 0 where
  pub no_line : NoLine (spell_line k) (RightLine k) rest
  pub no_last : (e : Entry) → RightLine k e → rest ≡ spell_line k e → ⊥

-- line n, counted from 1, is there or partly there, and is the first that is wrong
pub record WrongLine (t : List ℕ) (n : ℕ) : Type 0 where
  pub ls : List Entry
  pub rest : List ℕ
  pub begins : Begins t ls rest
  pub counted : n ≡ length ls + 1
  pub within : n ≤ most
  pub some : 0 < length rest
  pub wrong : NoRight (reached 0 ls) rest

-- line n, counted from 1, is the last and right, but for its byte 10
pub record UnendedLine (t : List ℕ) (n : ℕ) : Type 0 where
  pub ls : List Entry
  pub last : Entry
  pub begins : Begins t ls (spell_line (reached 0 ls) last)
  pub counted : n ≡ length ls + 1
  pub right : RightLine (reached 0 ls) last

-- what is wrong with the text
abbrev pub StartWrong : List ℕ → Wrong → Type 0
StartWrong t Few = (ls : List Entry) × Begins t ls [] × (length ls < fewest)
StartWrong t Many = (ls : List Entry) × (rest : List ℕ) × Begins t ls rest × (length ls ≡ most) × (0 < length rest)
StartWrong t (Line n) = WrongLine t n
StartWrong t (Unended n) = UnendedLine t n

-- each answer, and what it says of the text
abbrev pub StartRead : List ℕ → Result Start Wrong → Type 0
StartRead t (Ok s) = StartTaken t s.input s.budget s.values
StartRead t (Err r) = StartWrong t r
