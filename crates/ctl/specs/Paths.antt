-- Path operators by infinite paths, after document 01, "Conditions". Place s is statement s + 1; `step s t` says that s steps to t, in
-- the direction that is meant.
use Rattle.std.specs.Prelude.{◌≡◌, Bool, true, false, ℕ, suc, ◌<◌}

-- "All paths are thus infinite. A path's place 0 is the statement itself."
abbrev pub Path : (ℕ → ℕ → Bool) → ℕ → (ℕ → ℕ) → Type 0
Path step s π = (π 0 ≡ s) × ((i : ℕ) → step (π i) (π (suc i)) ≡ true)

-- "E means some path, A all paths": the two quantifiers
pub data Quant : Type 0 where
  E A : Quant

-- "Forward", "Backward": the two directions of a step
pub data Direction : Type 0 where
  forward backward : Direction

-- "some path", "all paths": Φ is true of some path from s, of all paths from s
abbrev pub Paths : Quant → (ℕ → ℕ → Bool) → ℕ → ((ℕ → ℕ) → Type 0) → Type 0
Paths E step s Φ = (π : ℕ → ℕ) × Path step s π × Φ π
Paths A step s Φ = (π : ℕ → ℕ) → Path step s π → Φ π

-- the quantifier that a flag `all` of the code names
abbrev pub quant : Bool → Quant
quant true = A
quant false = E

-- "X at place 1"
abbrev pub Next : (ℕ → Type 0) → (ℕ → ℕ) → Type 0
Next P π = P (π 1)

-- "F at some place"
abbrev pub Finally : (ℕ → Type 0) → (ℕ → ℕ) → Type 0
Finally P π = (i : ℕ) × P (π i)

-- "G at all"
abbrev pub Globally : (ℕ → Type 0) → (ℕ → ℕ) → Type 0
Globally P π = (i : ℕ) → P (π i)

-- "p U q: q at some place i, with i at least 0, and p at all places before"
abbrev pub Until : (ℕ → Type 0) → (ℕ → Type 0) → (ℕ → ℕ) → Type 0
Until P Q π = (i : ℕ) × Q (π i) × ((j : ℕ) → j < i → P (π j))

infixr 25 ◌or◌
-- the "or" of the next sentence: not both fail. A sum of types under "all paths" would decide every endless sequence of bits
-- (proofs/Sum.antt); under "some path" the two say the same (there too).
abbrev pub ◌or◌ : Type 0 → Type 0 → Type 0
X or Y = ¬ ((¬ X) × (¬ Y))

-- "p W q: p U q, or p at all places"
abbrev pub Weak : (ℕ → Type 0) → (ℕ → Type 0) → (ℕ → ℕ) → Type 0
Weak P Q π = Until P Q π or Globally P π

-- a test of places as what is said of them
abbrev pub So : (ℕ → Bool) → ℕ → Type 0
So p s = p s ≡ true

-- what makes all paths from the places below n infinite and within them: "`write` steps to itself", "a statement with no predecessor
-- steps back to itself"
pub record Graph (n : ℕ) (step : ℕ → ℕ → Bool) : Type 0 where
  pub inside : (s t : ℕ) → s < n → step s t ≡ true → t < n
  pub onward : (s : ℕ) → s < n → (t : ℕ) × (step s t ≡ true)
