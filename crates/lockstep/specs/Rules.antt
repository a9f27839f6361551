-- What each kind of mark asks and makes: document 01, "Marks".
use Rattle.std.specs.Prelude.{◌≡◌, Bool, true, false, ℕ, eqb}
use Rattle.base.specs.Pick.{pick}
use Rattle.language.specs.declared.Operand.{Operand}
use Rattle.language.specs.declared.Operand.TheVariants.{Variable, Constant}
use Rattle.language.specs.declared.Operator.{Operator}
use Rattle.language.specs.declared.Operator.TheVariants.{Add, Subtract, Multiply, Less, Equal, Divide}
use Rattle.language.specs.declared.Expression.{Expression}
use Rattle.language.specs.declared.Expression.TheVariants.{Single, Binary}
use Rattle.language.specs.declared.Statement.{Statement}
use Rattle.language.specs.declared.Statement.TheVariants.{Read, Write, Assign, Branch, Skip}
use Rattle.ctl.specs.Paths.{E, A, forward, backward}
use Rattle.condition.specs.Condition.{next, until, weak, Unary, negation, conjunction, Condition, atom, unary, binary}
use Rattle.condition.specs.Condition as condition
use Rattle.truth.specs.Truth.{Shows}
use Rattle.condition.specs.declared.Atom.TheVariants.{Entry, Stmt, Def, Use, Trans}
use Rattle.marks.specs.declared.Mark.{Mark}
use Rattle.marks.specs.declared.Mark.TheVariants.{Rm, Rpl, Cse}

-- "and A is a variable if n is an `if` or a `write`"
abbrev pub IsVariable : Operand → Type 0
IsVariable (Variable x) = Unit
IsVariable (Constant n) = ⊥

abbrev pub Takes : Statement → Operand → Type 0
Takes (Read y) a = Unit
Takes (Write y) a = IsVariable a
Takes (Assign y e) a = Unit
Takes (Branch y n m) a = IsVariable a
Takes Skip a = Unit

-- document 02: "with E of two operands"
abbrev pub IsBinary : Expression → Type 0
IsBinary (Single a) = ⊥
IsBinary (Binary a o b) = Unit

-- "`rm` fits where statement n is `X := E`." "`rpl` fits where n uses X, and A is a variable if n is an `if` or a `write`."; document 02: "`n: mark(cse, T, E)`
-- fits where n is `Z := E` with E of two operands"
abbrev pub Fits : Mark → Statement → Type 0
Fits (Rm n x e) i = i ≡ Assign x e
Fits (Rpl n x a) i = Shows i x × Takes i a
Fits (Cse n t e) i = ((z : ℕ) × (i ≡ Assign z e)) × IsBinary e

-- document 02: "Dropping `X := A / B` is allowed only if B is a constant other than 0"
abbrev pub NotZero : Operand → Type 0
NotZero (Variable x) = ⊥
NotZero (Constant n) = n ≡ 0 → ⊥

abbrev pub Safe : Operator → Operand → Type 0
Safe Add b = Unit
Safe Subtract b = Unit
Safe Multiply b = Unit
Safe Less b = Unit
Safe Equal b = Unit
Safe Divide b = NotZero b

abbrev pub Harmless : Expression → Type 0
Harmless (Single a) = Unit
Harmless (Binary a o b) = Safe o b

-- "this now belongs to what such an `rm` must meet to be accepted"
abbrev pub Droppable : Mark → Type 0
Droppable (Rm n x e) = Harmless e
Droppable (Rpl n x a) = Unit
Droppable (Cse n t e) = Unit

-- "`E[!def(X) U use(X)]`": X may still be used before it is defined
abbrev pub live : ℕ → Condition
live x = binary (condition.Binary.path E forward until) (unary negation (atom (Def x))) (atom (Use x))

-- "`((!def(X) & trans(A)) & !entry)`", and the same with E for A: nothing is done to X or E, and a run doesn't start here
abbrev pub untouched : ℕ → Expression → Condition
untouched x e =
    binary conjunction (binary conjunction (unary negation (atom (Def x))) (atom (Trans e))) (unary negation (atom Entry))

-- "`A[.. B ..]`": the last thing done to X or E was what the source says
abbrev pub sure : ℕ → Expression → Condition → Condition
sure x e source = binary (condition.Binary.path A backward weak) (untouched x e) source

-- "`AY A[.. B ..]`"
abbrev pub sure_before : ℕ → Expression → Condition → Condition
sure_before x e source = unary (Unary.path A backward next) (sure x e source)

-- "`stmt(X := A)`"; "`(stmt(T := E) & trans(E))`"
abbrev pub copy : ℕ → Operand → Condition
copy x a = atom (Stmt (Assign x (Single a)))

abbrev pub work : ℕ → Expression → Condition
work t e = binary conjunction (atom (Stmt (Assign t e))) (atom (Trans e))

-- "Condition: `!EX E[!def(X) U use(X)]`."
abbrev pub unneeded : ℕ → Condition
unneeded x = unary negation (unary (Unary.path E forward next) (live x))

-- "Condition: `AY A[((!def(X) & trans(A)) & !entry) B stmt(X := A)]`."
abbrev pub copied_before : ℕ → Operand → Condition
copied_before x a = sure_before x (Single a) (copy x a)

-- "Its condition is `AY A[((!def(T) & trans(E)) & !entry) B (stmt(T := E) & trans(E))]`."
abbrev pub computed_before : ℕ → Expression → Condition
computed_before t e = sure_before t e (work t e)

abbrev pub published : Mark → Condition
published (Rm n x e) = unneeded x
published (Rpl n x a) = copied_before x a
published (Cse n t e) = computed_before t e

abbrev pub replace_operand : ℕ → Operand → Operand → Operand
replace_operand x a (Variable y) = pick (eqb x y) a (Variable y)
replace_operand x a (Constant n) = Constant n

abbrev pub replace_in : ℕ → Operand → Expression → Expression
replace_in x a (Single b) = Single (replace_operand x a b)
replace_in x a (Binary b o c) = Binary (replace_operand x a b) o (replace_operand x a c)

abbrev pub replace_variable : ℕ → Operand → ℕ → ℕ
replace_variable x (Variable z) y = pick (eqb x y) z y
replace_variable x (Constant n) y = y

-- "Made: A for every use of X in n"
abbrev pub replace : ℕ → Operand → Statement → Statement
replace x a (Read y) = Read y
replace x a (Write y) = Write (replace_variable x a y)
replace x a (Assign y e) = Assign y (replace_in x a e)
replace x a (Branch y n m) = Branch (replace_variable x a y) n m
replace x a Skip = Skip

-- "and makes it `Z := T`"
abbrev pub reuse : ℕ → Statement → Statement
reuse t (Read y) = Read y
reuse t (Write y) = Write y
reuse t (Assign z e) = Assign z (Single (Variable t))
reuse t (Branch y n m) = Branch y n m
reuse t Skip = Skip

-- "Made: `skip`"; what the mark makes of the statement i
abbrev pub makes : Mark → Statement → Statement
makes (Rm n x e) i = Skip
makes (Rpl n x a) i = replace x a i
makes (Cse n t e) i = reuse t i
