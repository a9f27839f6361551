-- Lists of places that stand for endless paths, and what they show of a path operator. Place s is statement s + 1; `step s t` says that s
-- steps to t, in the direction that is meant. What is said of a path is `ctl`'s; nothing here says how a list is found.
use Rattle.std.specs.Prelude.{◌≡◌, Bool, true, cond, List, ℕ, zero, suc, ◌-◌, ◌≤◌, ◌<◌, ltb, length, get_or}
use Rattle.ctl.specs.Paths.{Quant, E, A}
use Rattle.labelling.specs.declared.Operator.{Operator}
use Rattle.labelling.specs.declared.Operator.TheVariants as op

-- ---- lists of places, and the paths that they stand for

-- the place at a position of a list, counted from 0, and the last position
abbrev pub place : List ℕ → ℕ → ℕ
place ls i = get_or ls i 0

abbrev pub last : List ℕ → ℕ
last ls = length ls - 1

-- what comes after the last place: any steps that exist, or the place at a position, the turn, and so on round and round
pub data Rest : Type 0 where
  any : Rest
  turn : ℕ → Rest

-- the position after i in a lasso of k places that turns to t: the next one, and after the last the turn
abbrev pub after : ℕ → ℕ → ℕ → ℕ
after k t i = cond (ltb (suc i) k) (suc i) t

unfoldable pub position : ℕ → ℕ → ℕ → ℕ
position k t zero = 0
position k t (suc i) = after k t (position k t i)

-- the endless path of a lasso
abbrev pub unroll : List ℕ → ℕ → ℕ → ℕ
unroll ls t i = place ls (position (length ls) t i)

-- the paths that a list stands for: all that begin with it, or the one that goes round
abbrev pub StandsFor : Rest → List ℕ → (ℕ → ℕ) → Type 0
StandsFor any ls π = (i : ℕ) → i < length ls → π i ≡ place ls i
StandsFor (turn t) ls π = (i : ℕ) → π i ≡ unroll ls t i

-- a list that starts at s and goes by steps
pub record Way (step : ℕ → ℕ → Bool) (s : ℕ) (ls : List ℕ) : Type 0 where
  pub some : 0 < length ls
  pub starts : place ls 0 ≡ s
  pub steps : (i : ℕ) → suc i < length ls → step (place ls i) (place ls (suc i)) ≡ true

-- and whose last place steps to the one at its turn
pub record Lasso (step : ℕ → ℕ → Bool) (s : ℕ) (ls : List ℕ) (t : ℕ) : Type 0 where
  pub way : Way step s ls
  pub within : t < length ls
  pub turns : step (place ls (last ls)) (place ls t) ≡ true

abbrev pub Goes : (ℕ → ℕ → Bool) → ℕ → Rest → List ℕ → Type 0
Goes step s any ls = Way step s ls
Goes step s (turn t) ls = Lasso step s ls t

-- ---- what a list shows

-- X at each place
abbrev pub Each : (ℕ → Type 0) → List ℕ → Type 0
Each X ls = (i : ℕ) → i < length ls → X (place ls i)

-- Y at the last place and X at all before
abbrev pub Reaches : (ℕ → Type 0) → (ℕ → Type 0) → List ℕ → Type 0
Reaches X Y ls = Y (place ls (last ls)) × ((i : ℕ) → i < last ls → X (place ls i))

-- the list bears the operator out. X: the second place and last has it; F: the last has it; U: the last has Y, those before X: these go on
-- by any steps. G: each place has it, with a turn. W as U or as G.
abbrev pub Bears : Operator → (ℕ → Type 0) → (ℕ → Type 0) → Rest → List ℕ → Type 0
Bears op.Next X Y any ls = (length ls ≡ 2) × X (place ls 1)
Bears op.Next X Y (turn t) ls = ⊥
Bears op.Finally X Y any ls = X (place ls (last ls))
Bears op.Finally X Y (turn t) ls = ⊥
Bears op.Globally X Y any ls = ⊥
Bears op.Globally X Y (turn t) ls = Each X ls
Bears op.Until X Y any ls = Reaches X Y ls
Bears op.Until X Y (turn t) ls = ⊥
Bears op.Weak X Y any ls = Reaches X Y ls
Bears op.Weak X Y (turn t) ls = Each X ls

abbrev pub Not : (ℕ → Type 0) → ℕ → Type 0
Not X s = ¬ X s

abbrev pub Neither : (ℕ → Type 0) → (ℕ → Type 0) → ℕ → Type 0
Neither X Y s = (¬ X s) × (¬ Y s)

-- the list speaks against the operator. X: the second place is without it; F: each place is, with a turn; G: the last is; W: no place has
-- Y, and the last has no X; U: as W, or no place has Y, with a turn.
abbrev pub Against : Operator → (ℕ → Type 0) → (ℕ → Type 0) → Rest → List ℕ → Type 0
Against op.Next X Y = Bears op.Next (Not X) (Not Y)
Against op.Finally X Y = Bears op.Globally (Not X) (Not Y)
Against op.Globally X Y = Bears op.Finally (Not X) (Not Y)
Against op.Until X Y = Bears op.Weak (Not Y) (Neither X Y)
Against op.Weak X Y = Bears op.Until (Not Y) (Neither X Y)

-- evidence: a list that bears E of an operator out, or speaks against A of it
abbrev pub Evidence : Quant → Operator → (ℕ → Type 0) → (ℕ → Type 0) → Rest → List ℕ → Type 0
Evidence E o X Y = Bears o X Y
Evidence A o X Y = Against o X Y

-- a list from s of at most m places, and what it shows
abbrev pub Shown : (ℕ → ℕ → Bool) → ℕ → ℕ → (Rest → List ℕ → Type 0) → Type 0
Shown step s m B = (r : Rest) × (ls : List ℕ) × (length ls ≤ m) × Goes step s r ls × B r ls

-- how many places are enough where there are n: all of them, and two for X
abbrev pub enough : Operator → ℕ → ℕ
enough op.Next n = 2
enough op.Finally n = n
enough op.Globally n = n
enough op.Until n = n
enough op.Weak n = n

-- no way from s that shows the same has fewer places
abbrev pub Shortest : (ℕ → ℕ → Bool) → ℕ → (List ℕ → Type 0) → List ℕ → Type 0
Shortest step s B ls = (ks : List ℕ) → Way step s ks → B ks → length ls ≤ length ks

-- the list is evidence from s, with no more places than are enough; and where any steps may follow, no way that is evidence is shorter
pub record Evident (k : Quant) (o : Operator) (n : ℕ) (step : ℕ → ℕ → Bool) (X Y : ℕ → Type 0) (s : ℕ) (r : Rest) (ls : List ℕ) : Type 0 where
  pub few : length ls ≤ enough o n
  pub goes : Goes step s r ls
  pub shows : Evidence k o X Y r ls
  pub shortest : r ≡ any → Shortest step s (Evidence k o X Y any) ls
