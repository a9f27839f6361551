-- What is found once of a program's statements, so that the row of an atom comes from it without another look at them. A proof
-- device: no sentence of document 01 stands here.
use Rattle.std.specs.Prelude.{◌≡◌, Bool, true, false, ◌&&◌, ◌||◌, List, [], ◌⊎◌, ℕ, zero, suc, ◌+◌, ◌*◌, ◌<◌, eqb, length, get_or}
use Rattle.language.specs.Spelling.{variables}
use Rattle.language.specs.Kept.{first_kept, kept_count}
use Rattle.language.specs.declared.Operand.{Operand}
use Rattle.language.specs.declared.Operand.TheVariants.{Variable, Constant}
use Rattle.language.specs.declared.Expression.{Expression}
use Rattle.language.specs.declared.Expression.TheVariants.{Single, Binary}
use Rattle.language.specs.declared.Statement.{Statement}
use Rattle.language.specs.declared.Statement.TheVariants.{Read, Write, Assign, Branch, Skip}
use Rattle.program.specs.Program.{at, most, row_words}
use Rattle.bits.specs.Row.{member, row_of}
use Rattle.ctl.specs.Paths.{So}
use Rattle.labelling.specs.Labels.{Labelled}
use Rattle.truth.specs.Truth.{Defines, uses_of}
use Rattle.codes.specs.Codes.{statement_code, code_words}

-- a variable x has two rows, one after the other: the places that define it, and those that use it
abbrev pub row_number : ℕ → Bool → ℕ
row_number x false = 2 * x
row_number x true = 2 * x + 1

abbrev pub defined_row : ℕ → ℕ
defined_row x = row_number x false

abbrev pub used_row : ℕ → ℕ
used_row x = row_number x true

-- the rows of all variables and their words, the code's FACT_WORDS
abbrev pub fact_rows : ℕ
fact_rows = 2 * variables

abbrev pub fact_words : ℕ
fact_words = row_words * fact_rows

-- whether the place j is in row r
abbrev pub placed : List ℕ → ℕ → ℕ → Bool
placed rows r = member (row_of row_words rows r)

-- the facts of the first n statements of P, where variables count as used as U says: the rows of the variables, and the codes of the
-- statements
pub record FactsBy (U : ℕ → ℕ → Type 0) (P : List Statement) (n : ℕ) (rows : List ℕ) (codes : List (List ℕ)) : Type 0 where
  pub many : length rows ≡ fact_words
  pub many_codes : length codes ≡ most
  pub defined : (x : ℕ) → x < variables → Labelled n (placed rows (defined_row x)) (λ s. Defines (at P s) x)
  pub used : (x : ℕ) → x < variables → Labelled n (placed rows (used_row x)) (U x)
  pub coded : (s : ℕ) → s < n → get_or codes s [] ≡ code_words (statement_code (at P s))

-- by P's own uses
abbrev pub FactsBelow : List Statement → ℕ → List ℕ → List (List ℕ) → Type 0
FactsBelow P n rows codes = FactsBy (uses_of P) P n rows codes

abbrev pub FactsOf : List Statement → List ℕ → List (List ℕ) → Type 0
FactsOf P rows codes = FactsBelow P (length P) rows codes

-- the uses that the rows have; the facts by any uses are the facts by these
abbrev pub used_in : List ℕ → ℕ → ℕ → Type 0
used_in rows x = So (placed rows (used_row x))

abbrev pub FactsIn : List Statement → ℕ → List ℕ → List (List ℕ) → Type 0
FactsIn P n rows codes = FactsBy (used_in rows) P n rows codes

-- U, and x at s too
abbrev pub Also : (ℕ → ℕ → Type 0) → ℕ → ℕ → ℕ → ℕ → Type 0
Also U x s y t = U y t ⊎ ((y ≡ x) × (t ≡ s))

-- the numbers of the lent facts
pub record Sized (rows : List ℕ) (codes : List (List ℕ)) : Type 0 where
  pub many : length rows ≡ fact_words
  pub many_codes : length codes ≡ most

-- whether a statement has its place in row r: the row of the variable that it defines, or of one that it uses
abbrev pub noted_operand : Operand → ℕ → Bool
noted_operand (Variable y) r = eqb (used_row y) r
noted_operand (Constant n) r = false

abbrev pub noted_expression : Expression → ℕ → Bool
noted_expression (Single a) r = noted_operand a r
noted_expression (Binary a o b) r = noted_operand a r || noted_operand b r

-- the using rows of the first n kept variables
unfoldable pub noted_kept : ℕ → ℕ → Bool
noted_kept zero r = false
noted_kept (suc n) r = noted_kept n r || eqb (used_row (first_kept + n)) r

abbrev pub noted : Statement → ℕ → Bool
noted (Read y) r = eqb (defined_row y) r
noted (Write y) r = eqb (used_row y) r || noted_kept kept_count r
noted (Assign y e) r = eqb (defined_row y) r || noted_expression e r
noted (Branch y n m) r = eqb (used_row y) r
noted Skip r = false

-- the rows of all variables, with no place in any
pub record Placeless (rows : List ℕ) : Type 0 where
  pub many : length rows ≡ fact_words
  pub none : (j : ℕ) → member rows j ≡ false

-- what is found of P: each place in the rows that its statement belongs to, and the codes of the statements, as many as there is room for
pub record Found (P : List Statement) (rows : List ℕ) (room : ℕ) (codes : List (List ℕ)) : Type 0 where
  pub many : length rows ≡ fact_words
  pub many_codes : length codes ≡ room
  pub bits : (r j : ℕ) → r < fact_rows → placed rows r j ≡ noted (at P j) r
  pub coded : (s : ℕ) → s < length P → s < room → get_or codes s [] ≡ code_words (statement_code (at P s))

-- place s is added to the rows of which `there` is true, and to no others
pub record Marked (old new : List ℕ) (there : ℕ → Bool) (s : ℕ) : Type 0 where
  pub same : length new ≡ length old
  pub bits : (r j : ℕ) → r < fact_rows → placed new r j ≡ (placed old r j || (there r && eqb s j))
