-- The lines of a trace, one for each step: its number, the statement's number and text, and the variable that it assigns with its value.
use Rattle.std.specs.Prelude.{List, [], ◌∷◌, ◌++◌, ℕ, zero, suc, ◌+◌, eqb, get_or}
use Rattle.base.specs.Bytes.{bytes}
use Rattle.language.specs.Spelling.{spell_constant, spell_variable, spell}
use Rattle.base.specs.Pick.{pick}
use Rattle.language.specs.declared.Statement.{Statement}
use Rattle.language.specs.declared.Statement.TheVariants.{Read, Write, Assign, Branch, Skip}
use Rattle.program.specs.Program.{at}
use Rattle.machine.specs.Machine.{State, before, ended, perform, after}
use Rattle.desk.specs.Columns.{number_columns, statement_columns, spaces, wide, padded}

-- `i3 = 9`: variable x has the 32 bits v
unfoldable pub value_text : ℕ → ℕ → List ℕ
value_text x v = spell_variable x ++ (bytes " = " ++ spell_constant v)

-- over the columns of a trace
unfoldable pub column_heads : List ℕ
column_heads = bytes "   step  line  statement                         assigned" ++ 10 ∷ []

abbrev pub as_before : List ℕ
as_before = bytes " (as before)"

-- two spaces and the value that variable x is assigned, if us are the values after that and vs those before; the same value is told as such
unfoldable pub assigned : ℕ → List ℕ → List ℕ → List ℕ
assigned x vs us = spaces 2 ++ (value_text x (get_or us x 0) ++ pick (eqb (get_or vs x 0) (get_or us x 0)) as_before [])

-- the same of the variable that a statement assigns, if it does
abbrev pub assignment : Statement → List ℕ → List ℕ → List ℕ
assignment (Read x) vs us = assigned x vs us
assignment (Write x) vs us = []
assignment (Assign x e) vs us = assigned x vs us
assignment (Branch x n m) vs us = []
assignment Skip vs us = []

-- what it assigned where this state follows: a step that ends the run assigns nothing
abbrev pub assigned_in : Statement → List ℕ → State → List ℕ
assigned_in x vs (before s us) = assignment x vs us
assigned_in x vs (ended v) = []

-- the columns of a step's number
abbrev pub step_columns : ℕ
step_columns = 7

-- step k performs the statement x at place s: the step's number, the statement's, and its text, each in its columns
unfoldable pub step_head : ℕ → ℕ → Statement → List ℕ
step_head k s x = wide step_columns k ++ (spaces 2 ++ (wide number_columns (s + 1) ++ (spaces 2 ++ padded statement_columns (spell x))))

-- its line, where w tells what it assigned
unfoldable pub line_text : ℕ → ℕ → Statement → List ℕ → List ℕ
line_text k s x w = step_head k s x ++ (w ++ 10 ∷ [])

-- the line of step k where it is performed in this state; once ended there is no further step
abbrev pub step_line : List Statement → ℕ → ℕ → State → List ℕ
step_line P input k (before s vs) = line_text k s (at P s) (assigned_in (at P s) vs (perform (at P s) input s vs))
step_line P input k (ended v) = []

-- the lines of n steps of the program P from the values vs and the input, after the first k
unfoldable pub step_lines : List Statement → List ℕ → ℕ → ℕ → ℕ → List ℕ
step_lines P vs input k zero = []
step_lines P vs input k (suc n) = step_lines P vs input k n ++ step_line P input (suc (k + n)) (after P vs input (k + n))
