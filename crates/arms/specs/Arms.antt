-- Whose `if`s they are, the arms of them that each player takes, and what it means that a play takes them: document 02, Wish 10.
use Rattle.std.specs.Prelude.{◌≡◌, List, Bool, true, false, not, ◌||◌, ℕ, suc, ◌-◌, ◌≤◌, ◌<◌, eqb, leb, length, get_or}
use Rattle.base.specs.Pick.{pick}
use Rattle.language.specs.declared.Statement.{Statement}
use Rattle.language.specs.declared.Statement.TheVariants.{Read, Write, Assign, Branch, Skip}
use Rattle.program.specs.Program.{at}
use Rattle.ctl.specs.Paths.{Path}
use Rattle.forcing.specs.Numbers.{none, number_of}
use Rattle.arms.specs.declared.Arm.{Arm}
use Rattle.arms.specs.declared.Arm.TheVariants as arm

-- an `if` on a variable of which `named` is true
abbrev pub asks : (ℕ → Bool) → Statement → Bool
asks named (Read x) = false
asks named (Write x) = false
asks named (Assign x e) = false
asks named (Branch x n m) = named x
asks named Skip = false

-- "At an `if` on one of them he picks the arm, at every other the unit picks"
abbrev pub his : List Statement → (ℕ → Bool) → ℕ → Bool
his P named s = asks named (at P s)

-- an arm is told as 0 for none, 1 for `goto`, 2 for `else`
abbrev pub told : Arm → ℕ
told arm.None = 0
told arm.Goto = 1
told arm.Else = 2

-- `goto` where the test holds, else `else`
abbrev pub side : Bool → ℕ
side true = 1
side false = 2

-- of an `if` with the number k whose arms lead to the numbers a and b: "where he can and p isn't there yet, .. at his `if` the arm from which
-- that number is lower, or the only arm that has one" (`none` is above every number); "Everywhere else .. at its `if` an arm that does so";
-- "Where both arms serve alike it is the `goto` one; no other `if` gets an arm."
abbrev pub arm_of : Bool → ℕ → ℕ → ℕ → ℕ
arm_of true k a b = pick (eqb k 0 || eqb k none) 0 (side (leb a b))
arm_of false k a b = pick (eqb k none) (side (eqb a none)) 0

-- the arm of the statement at place s, which is his or not
abbrev pub arm_at : Statement → Bool → List ℕ → ℕ → ℕ
arm_at (Read x) own numbers s = 0
arm_at (Write x) own numbers s = 0
arm_at (Assign x e) own numbers s = 0
arm_at (Branch x n m) own numbers s = arm_of own (number_of numbers s) (number_of numbers (n - 1)) (number_of numbers (m - 1))
arm_at Skip own numbers s = 0

-- `arms` has them for the program P, with his places in `mine`
abbrev pub ArmsOf : List Statement → (ℕ → Bool) → List ℕ → List ℕ → Type 0
ArmsOf P mine numbers arms = (s : ℕ) → s < length P → get_or arms s 0 ≡ arm_at (at P s) (mine s) numbers s

-- to go from the statement to place t is to take the arm a
abbrev pub Goes : Statement → ℕ → ℕ → Type 0
Goes (Read x) a t = Unit
Goes (Write x) a t = Unit
Goes (Assign x e) a t = Unit
Goes (Branch x n m) a t = (a ≡ 1 → t ≡ n - 1) × (a ≡ 2 → t ≡ m - 1)
Goes Skip a t = Unit

-- the play takes the arms at the places of `own`
abbrev pub Takes : List Statement → List ℕ → (ℕ → Bool) → (ℕ → ℕ) → Type 0
Takes P arms own π = (i : ℕ) → own (π i) ≡ true → Goes (at P (π i)) (get_or arms (π i) 0) (π (suc i))

-- the arms told are such strategies: every play from s that takes his has X within the number, every play that takes the unit's never has it
pub record Strategies (P : List Statement) (step : ℕ → ℕ → Bool) (mine : ℕ → Bool) (X : ℕ → Type 0) (numbers arms : List ℕ) (s : ℕ) : Type 0 where
  pub his_arms : (number_of numbers s ≡ none → ⊥) → (π : ℕ → ℕ) → Path step s π → Takes P arms mine π → (i : ℕ) × (i ≤ number_of numbers s) × X (π i)
  pub unit_arms : number_of numbers s ≡ none → (π : ℕ → ℕ) → Path step s π → Takes P arms (λ t. not (mine t)) π → (i : ℕ) → X (π i) → ⊥
