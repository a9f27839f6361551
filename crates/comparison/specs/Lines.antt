-- Two traces side by side: a line for each step, with both statements and the variables that differ after it.
use Rattle.std.specs.Prelude.{List, [], ◌∷◌, ◌++◌, ℕ, zero, suc, ◌+◌, eqb, get_or}
use Rattle.language.specs.Room.{constant_room}
use Rattle.language.specs.Spelling.{variables, spell_constant, spell_variable, spell}
use Rattle.base.specs.Pick.{pick}
use Rattle.language.specs.declared.Statement.{Statement}
use Rattle.program.specs.Program.{at}
use Rattle.machine.specs.Machine.{State, before, ended, perform, after}
use Rattle.desk.specs.Columns.{statement_columns, spaces, padded}
use Rattle.trace.specs.Trace.{step_head}

-- the columns of a variable that differs, and of a value
abbrev pub differs_columns : ℕ
differs_columns = 7

abbrev pub value_columns : ℕ
value_columns = constant_room

-- the variable and its two values, each in its columns
unfoldable pub pair_text : ℕ → ℕ → ℕ → List ℕ
pair_text x v w =
    spaces 2
    ++ (padded differs_columns (spell_variable x) ++ (spaces 2 ++ (padded value_columns (spell_constant v) ++ (spaces 2 ++ padded value_columns (spell_constant w)))))

-- where its values differ
unfoldable pub difference : ℕ → List ℕ → List ℕ → List ℕ
difference x vs ws = pick (eqb (get_or vs x 0) (get_or ws x 0)) [] (pair_text x (get_or vs x 0) (get_or ws x 0))

-- the same for each of the first n variables, in order
unfoldable pub differences : ℕ → List ℕ → List ℕ → List ℕ
differences zero vs ws = []
differences (suc n) vs ws = differences n vs ws ++ difference n vs ws

-- step k performs x at place s of the given program, and y of the rewritten one; vs and ws are the values after it
unfoldable pub pair_line : ℕ → ℕ → Statement → Statement → List ℕ → List ℕ → List ℕ
pair_line k s x y vs ws = step_head k s x ++ (spaces 2 ++ (padded statement_columns (spell y) ++ (differences variables vs ws ++ 10 ∷ [])))

-- the values in a state that follows one with the values vs: a step that ends the run changes none
abbrev pub values_in : State → List ℕ → List ℕ
values_in (before s us) vs = us
values_in (ended v) vs = vs

-- the line of step k where both runs stand before a statement
abbrev pub both_line : List Statement → List Statement → ℕ → ℕ → State → State → List ℕ
both_line P Q input k (before s vs) (before t ws) =
    pair_line k s (at P s) (at Q t) (values_in (perform (at P s) input s vs) vs) (values_in (perform (at Q t) input t ws) ws)
both_line P Q input k (before s vs) (ended w) = []
both_line P Q input k (ended v) τ = []

-- the lines of n steps of P and Q from the same values and input, after the first k
unfoldable pub both_lines : List Statement → List Statement → List ℕ → ℕ → ℕ → ℕ → List ℕ
both_lines P Q vs input k zero = []
both_lines P Q vs input k (suc n) =
    both_lines P Q vs input k n ++ both_line P Q input (suc (k + n)) (after P vs input (k + n)) (after Q vs input (k + n))
