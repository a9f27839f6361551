-- A road and a creeper program joined: document 02, Wish 9. Place s is statement s + 1; P is the road program, Q the creeper program.
use Rattle.std.specs.Prelude.{List, ◌∷◌, ◌++◌, map, ℕ, ◌+◌, ◌-◌, length, take, drop}
use Rattle.language.specs.declared.Operand.TheVariants.{Variable}
use Rattle.language.specs.declared.Expression.TheVariants.{Single}
use Rattle.language.specs.declared.Statement.{Statement}
use Rattle.language.specs.declared.Statement.TheVariants.{Read, Write, Assign, Branch, Skip}
use Rattle.program.specs.Program.{at}

-- "creeper statement k from 2 on becomes N+k-1, its targets likewise": d is N-1
abbrev pub moved : ℕ → Statement → Statement
moved d (Read x) = Read x
moved d (Write x) = Write x
moved d (Assign x e) = Assign x e
moved d (Branch x n m) = Branch x (d + n) (d + m)
moved d Skip = Skip

-- the variable of a `write`, and of a `read`
abbrev pub writes : Statement → ℕ
writes (Read x) = 0
writes (Write x) = x
writes (Assign x e) = 0
writes (Branch x n m) = 0
writes Skip = 0

abbrev pub reads : Statement → ℕ
reads (Read x) = x
reads (Write x) = 0
reads (Assign x e) = 0
reads (Branch x n m) = 0
reads Skip = 0

-- "The road program's `write X` and the creeper program's `read Y` become the one statement `Y := X`"
abbrev pub seam : List Statement → List Statement → Statement
seam P Q = Assign (reads (at Q 0)) (Single (Variable (writes (at P (length P - 1)))))

-- "become one of N+M-1"
abbrev pub joined : List Statement → List Statement → List Statement
joined P Q = take (length P - 1) P ++ (seam P Q ∷ map (moved (length P - 1)) (drop 1 Q))
