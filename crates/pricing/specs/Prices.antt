-- What statements cost, by a table of eleven prices, and which prices are in force where a caller hands a table: document 02, Wishes 7 and 8.
use Rattle.std.specs.Prelude.{Bool, ◌&&◌, List, [], ◌∷◌, map, ℕ, ◌+◌, ◌≤◌, leb, get_or, replicate}
use Rattle.std.proofs.lemmas.List.Edits.{sets}
use Rattle.base.specs.Pick.{pick}
use Rattle.language.specs.declared.Operator.{Operator}
use Rattle.language.specs.declared.Operator.TheVariants.{Add, Subtract, Multiply, Less, Equal, Divide}
use Rattle.language.specs.declared.Expression.{Expression}
use Rattle.language.specs.declared.Expression.TheVariants.{Single, Binary}
use Rattle.language.specs.declared.Statement.{Statement}
use Rattle.language.specs.declared.Statement.TheVariants.{Read, Write, Assign, Branch, Skip}
use Rattle.program.specs.Program.{most}

-- "`read` 4, `write` 4, `skip` 1, `if` 3, `X := A` 2, `+` 3, `-` 3, `*` 9, `<` 3, `=` 3, `/` 24": eleven kinds, in this order
abbrev pub kinds : ℕ
kinds = 11

abbrev pub ours : List ℕ
ours = 4 ∷ 4 ∷ 1 ∷ 3 ∷ 2 ∷ 3 ∷ 3 ∷ 9 ∷ 3 ∷ 3 ∷ 24 ∷ []

abbrev pub operator_kind : Operator → ℕ
operator_kind Add = 5
operator_kind Subtract = 6
operator_kind Multiply = 7
operator_kind Less = 8
operator_kind Equal = 9
operator_kind Divide = 10

abbrev pub expression_kind : Expression → ℕ
expression_kind (Single a) = 4
expression_kind (Binary a o b) = operator_kind o

abbrev pub kind_of : Statement → ℕ
kind_of (Read x) = 0
kind_of (Write x) = 1
kind_of Skip = 2
kind_of (Branch x n m) = 3
kind_of (Assign x e) = expression_kind e

-- "Each statement has a price", by the table ps
abbrev pub price : List ℕ → Statement → ℕ
price ps i = get_or ps (kind_of i) 0

-- the prices of a program's statements
abbrev pub prices : List ℕ → List Statement → List ℕ
prices ps P = map (price ps) P

abbrev pub sum : List ℕ → ℕ
sum [] = 0
sum (n ∷ ns) = n + sum ns

-- what all statements of a program cost, each counted once
abbrev pub total : List ℕ → List Statement → ℕ
total ps P = sum (prices ps P)

-- the prices at the front of an array for as many statements as there can be, zeros behind them
unfoldable pub column : List ℕ → List Statement → List ℕ
column ps P = sets (replicate most 0) 0 (prices ps P)

-- no entry is above m
abbrev pub AtMost : ℕ → List ℕ → Type 0
AtMost m ns = (k : ℕ) → get_or ns k 0 ≤ m

-- no price of a table is above this, so that a program's total has room in 32 bits
abbrev pub most_price : ℕ
most_price = 65535

abbrev pub Fair : List ℕ → Type 0
Fair ps = AtMost most_price ps

-- Wish 8: "a decimal number from 1 to 65,535"
abbrev pub ValidPrice : ℕ → Type 0
ValidPrice n = (1 ≤ n) × (n ≤ most_price)

-- "a price in it outside 1 to 65,535 counts as ours": what n counts, where o is ours
abbrev pub counted : ℕ → ℕ → ℕ
counted n o = pick (leb 1 n && leb n most_price) n o

-- the same of each price singly
unfoldable pub counted_each : List ℕ → List ℕ → List ℕ
counted_each [] os = os
counted_each (n ∷ ns) [] = []
counted_each (n ∷ ns) (o ∷ os) = counted n o ∷ counted_each ns os

-- the prices in force where the caller hands the table ps
unfoldable pub in_force : List ℕ → List ℕ
in_force ps = counted_each ps ours
