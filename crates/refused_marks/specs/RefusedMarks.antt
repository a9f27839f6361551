-- The paths that show why a mark's published condition is false, and what the last statement of one does. Place s is statement s + 1.
use Rattle.std.specs.Prelude.{◌≡◌, ◌⊎◌, List, ℕ, ◌≤◌, length}
use Rattle.language.specs.declared.Expression.{Expression}
use Rattle.language.specs.declared.Expression.TheVariants.{Single}
use Rattle.language.specs.declared.Statement.{Statement}
use Rattle.language.specs.declared.Statement.TheVariants.{Assign}
use Rattle.program.specs.Program.{at}
use Rattle.ctl.specs.Paths.{Direction, forward, backward}
use Rattle.flow.specs.Flow.{steps}
use Rattle.truth.specs.Truth.{In, Defines, uses_of}
use Rattle.walks.specs.Told.{Told}
use Rattle.departures.specs.Departures.{Departs}
use Rattle.marks.specs.declared.Mark.{Mark}
use Rattle.marks.specs.declared.Mark.TheVariants.{Rm, Rpl, Cse}
use Rattle.rewriting.specs.Verdicts.{place}

-- "for `rm` forward ..; for `rpl` and `cse` backward"
abbrev pub direction_of : Mark → Direction
direction_of (Rm n x e) = forward
direction_of (Rpl n x a) = backward
direction_of (Cse n x e) = backward

-- the statement defines a variable of the expression
abbrev pub Spoils : Statement → Expression → Type 0
Spoils i e = (y : ℕ) × In y e × Defines i y

-- the path may go on past the statement: "none between defining it [X]"; "with no copy (sum) on the way". A sum that defines a variable of its own
-- expression leaves nothing that could be used again
abbrev pub Passes : List Statement → Mark → ℕ → Type 0
Passes P (Rm n x e) t = ¬ Defines (at P t) x
Passes P (Rpl n x a) t = ¬ (at P t ≡ Assign x (Single a))
Passes P (Cse n x e) t = ¬ ((at P t ≡ Assign x e) × (¬ Spoils (at P t) e))

-- "one that uses X (a use that an accepted `cse` adds counts, and is told)", U being the uses with these: 1 the program itself uses X there, 2
-- only an accepted `cse` does
abbrev pub UsedBy : (ℕ → ℕ → Type 0) → List Statement → ℕ → ℕ → ℕ → Type 0
UsedBy U P x t c = ((c ≡ 1) × uses_of P x t) ⊎ ((c ≡ 2) × (¬ uses_of P x t) × U x t)

-- "one that defines X or a variable of A or E, or .. statement 1": 3, 4, and 5, the first that applies
abbrev pub SpoiltBy : Statement → ℕ → Expression → ℕ → ℕ → Type 0
SpoiltBy i x e t c = ((c ≡ 3) × Defines i x) ⊎ (((c ≡ 4) × (¬ Defines i x) × Spoils i e) ⊎ ((c ≡ 5) × (¬ Defines i x) × (¬ Spoils i e) × (t ≡ 0)))

-- "`culprit` says which of these": the path may end at place t, since what the culprit c says is so there
abbrev pub Culprit : (ℕ → ℕ → Type 0) → List Statement → Mark → ℕ → ℕ → Type 0
Culprit U P (Rm n x e) t c = UsedBy U P x t c
Culprit U P (Rpl n x a) t c = Passes P (Rpl n x a) t × SpoiltBy (at P t) x (Single a) t c
Culprit U P (Cse n x e) t c = Passes P (Cse n x e) t × SpoiltBy (at P t) x e t c

-- the path from the mark's statement on, by one step or more, shows the culprit
abbrev pub ShownBy : (ℕ → ℕ → Type 0) → List Statement → Mark → ℕ → List ℕ → Type 0
ShownBy U P m c ls = Departs (steps P (direction_of m)) (Passes P m) (λ t. Culprit U P m t c) (place m) ls

-- the first k words tell such a path, and none, of whatever culprit, is shorter; all other words are kept
pub record PathOf (U : ℕ → ℕ → Type 0) (P : List Statement) (m : Mark) (old new : List ℕ) (k c : ℕ) : Type 0 where
  pub ls : List ℕ
  pub counted : k ≡ length ls
  pub shown : ShownBy U P m c ls
  pub shortest : (d : ℕ) (ks : List ℕ) → ShownBy U P m d ks → length ls ≤ length ks
  pub told : Told 0 ls old new
