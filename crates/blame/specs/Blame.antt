-- Which line of a program's text a refusal is about.
use Rattle.std.specs.Prelude.{◌≡◌, List, ℕ, ◌<◌, length}
use Rattle.line_number.specs.First as first
use Rattle.line_number.specs.First.{line_at}
use Rattle.language.specs.Spelling.{spell, Valid}
use Rattle.language.specs.declared.Statement.{Statement}
use Rattle.program.specs.Program.{Spells, at, InPlace, Targets, Taken}
use Rattle.program.specs.Reading.{Refused, number}
use Rattle.program.specs.declared.Refusal.{Refusal}
use Rattle.program.specs.declared.Refusal.TheVariants.{Misspelled, LineCount, Placement, Target}

-- line n is the first that isn't spelled as a statement
abbrev pub FirstMisspelled : List ℕ → ℕ → Type 0
FirstMisspelled t n = first.FirstMisspelled spell Valid t n

-- line n has the first statement of which the claim fails, a claim about the number of statements, a place and the statement there
pub record FirstBroken (Claim : ℕ → ℕ → Statement → Type 0) (t : List ℕ) (n : ℕ) : Type 0 where
  pub P : List Statement
  pub spells : Spells t P
  pub s : ℕ
  pub inside : s < length P
  pub broken : Claim (length P) s (at P s) → ⊥
  pub before : (j : ℕ) → j < s → Claim (length P) j (at P j)
  pub line : n ≡ line_at s

-- the claim holds of each statement
pub record NoneBroken (Claim : ℕ → ℕ → Statement → Type 0) (t : List ℕ) : Type 0 where
  pub P : List Statement
  pub spells : Spells t P
  pub each : (j : ℕ) → j < length P → Claim (length P) j (at P j)

-- what each refusal asks of a statement; the first two ask it of the text
abbrev pub Rule : Refusal → ℕ → ℕ → Statement → Type 0
Rule Misspelled N s i = Unit
Rule LineCount N s i = Unit
Rule Placement N s i = InPlace N s i
Rule Target N s i = Targets N i

-- the refusal r of the text t is about line n; 0 is no line
abbrev pub Blames : List ℕ → Refusal → ℕ → Type 0
Blames t Misspelled n = FirstMisspelled t n
Blames t LineCount n = n ≡ 0
Blames t Placement n = FirstBroken (Rule Placement) t n
Blames t Target n = FirstBroken (Rule Target) t n

-- the line told of any text for the refusal r, whether or not the text gets it: the first that isn't spelled; else the first whose
-- statement isn't as r asks; else 0
pub data LineTold (t : List ℕ) (r : Refusal) (n : ℕ) : Type 0 where
  misspelled : FirstMisspelled t n → LineTold t r n
  broken : FirstBroken (Rule r) t n → LineTold t r n
  none : NoneBroken (Rule r) t → n ≡ 0 → LineTold t r n

-- the line told of any text for the refusal with number n; 0 where no refusal of a program has it
pub record NumberTold (t : List ℕ) (n line : ℕ) : Type 0 where
  pub told : (r : Refusal) → n ≡ number r → LineTold t r line
  pub other : ((r : Refusal) → n ≡ number r → ⊥) → line ≡ 0

-- the refusal with number n of the text t is about this line; 0 where no refusal of a program has that number
pub record Blamed (t : List ℕ) (n line : ℕ) : Type 0 where
  pub about : (r : Refusal) → n ≡ number r → Refused t r → Blames t r line
  pub other : ((r : Refusal) → n ≡ number r → ⊥) → line ≡ 0

-- whatever refusal the text t gets is about line n, which is 0 where it is taken
pub record TextBlamed (t : List ℕ) (n : ℕ) : Type 0 where
  pub about : (r : Refusal) → Refused t r → Blames t r n
  pub taken : (P : List Statement) → Taken t P → n ≡ 0
