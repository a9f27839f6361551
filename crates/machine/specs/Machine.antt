-- One step, and the state after every number of steps: document 01, "The statement language", its last paragraph.
use Rattle.std.specs.Prelude.{List, ℕ, zero, suc, ◌+◌, ◌-◌, get_or, set, eqb, Option, None, Some}
use Rattle.base.specs.Pick.{pick}
use Rattle.language.specs.Kept.{kept_of}
use Rattle.language.specs.declared.Operand.{Operand}
use Rattle.language.specs.declared.Operand.TheVariants.{Variable, Constant}
use Rattle.language.specs.declared.Expression.{Expression}
use Rattle.language.specs.declared.Expression.TheVariants.{Single, Binary}
use Rattle.language.specs.declared.Statement.{Statement}
use Rattle.language.specs.declared.Statement.TheVariants.{Read, Write, Assign, Branch, Skip}
use Rattle.program.specs.Program.{at}
use Rattle.arithmetic.specs.Arithmetic.{apply, faults, given}

abbrev pub operand_value : List ℕ → Operand → ℕ
operand_value vs (Variable x) = get_or vs x 0
operand_value vs (Constant n) = n

abbrev pub value : List ℕ → Expression → Option ℕ
value vs (Single a) = Some (operand_value vs a)
value vs (Binary a o b) = given (faults o (operand_value vs b)) (apply o (operand_value vs a) (operand_value vs b))

-- how a run ends: a value is written, and the values of the kept variables stay; or the statement at a place faults. Document 02: "A run's outcome is
-- the written value with the eight kept ones", "kept values aren't part of this outcome"
pub data Final : Type 0 where
  written : ℕ → List ℕ → Final
  faulted : ℕ → Final

-- "a run either stands before one statement or has ended with its value": the statement's place, with the values; or how it ended
pub data State : Type 0 where
  before : ℕ → List ℕ → State
  ended : Final → State

-- the value is stored in x and the next line follows, or the run ends with a fault at place s
abbrev pub stored : Option ℕ → ℕ → ℕ → List ℕ → State
stored (Some v) x s vs = before (s + 1) (set vs x v)
stored None x s vs = ended (faulted s)

-- "`read X` stores the input. `if` goes to n where X isn't 0, else to m. `write X` ends the run with X's value. All others go to the next line."
abbrev pub perform : Statement → ℕ → ℕ → List ℕ → State
perform (Read x) input s vs = before (s + 1) (set vs x input)
perform (Write x) input s vs = ended (written (get_or vs x 0) (kept_of vs))
perform (Assign x e) input s vs = stored (value vs e) x s vs
perform (Branch x n m) input s vs = before (pick (eqb (get_or vs x 0) 0) m n - 1) vs
perform Skip input s vs = before (s + 1) vs

-- "One step performs one statement"; "once ended it stays so"
abbrev pub step_from : List Statement → ℕ → State → State
step_from P input (before s vs) = perform (at P s) input s vs
step_from P input (ended v) = ended v

-- "A run starts before statement 1 with 32 given values and one input value", "64 values" by document 02. The state after k steps:
unfoldable pub after : List Statement → List ℕ → ℕ → ℕ → State
after P vs input zero = before 0 vs
after P vs input (suc k) = step_from P input (after P vs input k)
