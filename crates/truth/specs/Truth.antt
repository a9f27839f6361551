-- The truth of a condition at a place of a program, by infinite paths. Document 01, "Conditions".
use Rattle.std.specs.Prelude.{◌≡◌, ◌⊎◌, List, ℕ, ◌+◌, length}
use Rattle.language.specs.Kept.{Kept}
use Rattle.language.specs.declared.Operand.{Operand}
use Rattle.language.specs.declared.Operand.TheVariants.{Variable, Constant}
use Rattle.language.specs.declared.Expression.{Expression}
use Rattle.language.specs.declared.Expression.TheVariants.{Single, Binary}
use Rattle.language.specs.declared.Statement.{Statement}
use Rattle.language.specs.declared.Statement.TheVariants.{Read, Write, Assign, Branch, Skip}
use Rattle.program.specs.Program.{at}
use Rattle.ctl.specs.Paths.{Paths, Next, Finally, Globally, Until, Weak}
use Rattle.flow.specs.Flow.{steps}
use Rattle.condition.specs.Condition.{PathUnary, next, finally, globally, PathBinary, until, weak, Unary, negation, conjunction, disjunction, Condition, atom, unary, binary}
use Rattle.condition.specs.Condition as condition
use Rattle.condition.specs.declared.Atom.{Atom}
use Rattle.condition.specs.declared.Atom.TheVariants.{True, False, Entry, Exit, Node, Stmt, Def, Use, Trans}

-- x is a variable of the operand; of the expression
abbrev pub InOperand : ℕ → Operand → Type 0
InOperand x (Variable y) = x ≡ y
InOperand x (Constant n) = ⊥

abbrev pub In : ℕ → Expression → Type 0
In x (Single a) = InOperand x a
In x (Binary a o b) = InOperand x a ⊎ InOperand x b

-- "`def(X)` (`read X` or `X := E`)"
abbrev pub Defines : Statement → ℕ → Type 0
Defines (Read y) x = x ≡ y
Defines (Write y) x = ⊥
Defines (Assign y e) x = x ≡ y
Defines (Branch y n m) x = ⊥
Defines Skip x = ⊥

-- the variables that a statement's text shows as used: "in the right side, tested by `if`, or written"
abbrev pub Shows : Statement → ℕ → Type 0
Shows (Read y) x = ⊥
Shows (Write y) x = x ≡ y
Shows (Assign y e) x = In x e
Shows (Branch y n m) x = x ≡ y
Shows Skip x = ⊥

-- the statement is a `write`
abbrev pub Writes : Statement → Type 0
Writes (Read y) = ⊥
Writes (Write y) = Unit
Writes (Assign y e) = ⊥
Writes (Branch y n m) = ⊥
Writes Skip = ⊥

-- "`use(X)`"; document 02: "`use` of each of the eight also holds at `write`"
abbrev pub Uses : Statement → ℕ → Type 0
Uses i x = Shows i x ⊎ (Writes i × Kept x)

-- the uses of a program: x is used at place s
abbrev pub uses_of : List Statement → ℕ → ℕ → Type 0
uses_of P x s = Uses (at P s) x

-- "`entry` (statement 1), `exit` (statement N), `node(n)`, `stmt(I)` (the statement is I) .., `trans(E)` (no variable of E is defined
-- here)": at place s of N, where the statement i stands and the variables of which `Used` is true count as used
abbrev pub HoldsAt : (ℕ → Type 0) → ℕ → Statement → ℕ → Atom → Type 0
HoldsAt Used N i s True = Unit
HoldsAt Used N i s False = ⊥
HoldsAt Used N i s Entry = s ≡ 0
HoldsAt Used N i s Exit = s + 1 ≡ N
HoldsAt Used N i s (Node n) = s + 1 ≡ n
HoldsAt Used N i s (Stmt j) = i ≡ j
HoldsAt Used N i s (Def x) = Defines i x
HoldsAt Used N i s (Use x) = Used x
HoldsAt Used N i s (Trans e) = (x : ℕ) → In x e → Defines i x → ⊥

-- at place s of the program P, where U x t says that the variable x counts as used at place t
abbrev pub HoldsBy : (ℕ → ℕ → Type 0) → List Statement → Atom → ℕ → Type 0
HoldsBy U P a s = HoldsAt (λ x. U x s) (length P) (at P s) s a

-- what is said of one path with one condition, and with two
abbrev pub SaidOne : PathUnary → (ℕ → Type 0) → (ℕ → ℕ) → Type 0
SaidOne next X = Next X
SaidOne finally X = Finally X
SaidOne globally X = Globally X

abbrev pub SaidTwo : PathBinary → (ℕ → Type 0) → (ℕ → Type 0) → (ℕ → ℕ) → Type 0
SaidTwo until X Y = Until X Y
SaidTwo weak X Y = Weak X Y

-- an operator of what is said of places
abbrev pub SatUnary : List Statement → Unary → (ℕ → Type 0) → ℕ → Type 0
SatUnary P negation X s = X s → ⊥
SatUnary P (Unary.path k d o) X s = Paths k (steps P d) s (SaidOne o X)

abbrev pub SatBinary : List Statement → condition.Binary → (ℕ → Type 0) → (ℕ → Type 0) → ℕ → Type 0
SatBinary P conjunction X Y s = X s × Y s
SatBinary P disjunction X Y s = X s ⊎ Y s
SatBinary P (condition.Binary.path k d o) X Y s = Paths k (steps P d) s (SaidTwo o X Y)

-- the condition is true at place s of the program P, where variables count as used as U says
unfoldable pub SatBy : (ℕ → ℕ → Type 0) → List Statement → Condition → ℕ → Type 0
SatBy U P (atom a) s = HoldsBy U P a s
SatBy U P (unary o p) s = SatUnary P o (SatBy U P p) s
SatBy U P (binary o p q) s = SatBinary P o (SatBy U P p) (SatBy U P q) s

-- the condition is true at place s of the program P
abbrev pub Sat : List Statement → Condition → ℕ → Type 0
Sat P = SatBy (uses_of P) P
