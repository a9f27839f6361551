-- Proof devices: what a function that computes a set of places establishes of it, in terms of single steps. No sentence of document 01
-- stands here; proofs/Until.antt and proofs/Weak.antt hold these to the paths, both ways round.
use Rattle.std.specs.Prelude.{◌≡◌, Bool, true, false, ℕ, ◌≤◌, ◌<◌}
use Rattle.ctl.specs.Paths.{Quant, E, A, So}

-- the other quantifier
abbrev pub other : Quant → Quant
other E = A
other A = E

-- some step of s leads to a place of P; all steps do
abbrev pub Onto : Quant → (ℕ → ℕ → Bool) → (ℕ → Type 0) → ℕ → Type 0
Onto E step P s = (t : ℕ) × (step s t ≡ true) × P t
Onto A step P s = (t : ℕ) → step s t ≡ true → P t

-- the places from which q is reached through p by some way
pub data Some (step : ℕ → ℕ → Bool) (p q : ℕ → Bool) : ℕ → Type 0 where
  now : {s : ℕ} → q s ≡ true → Some step p q s
  later : {s t : ℕ} → p s ≡ true → step s t ≡ true → Some step p q t → Some step p q s

-- the places from which q is reached through p by all ways
pub data All (step : ℕ → ℕ → Bool) (p q : ℕ → Bool) : ℕ → Type 0 where
  now : {s : ℕ} → q s ≡ true → All step p q s
  later : {s : ℕ} → p s ≡ true → ((t : ℕ) → step s t ≡ true → All step p q t) → All step p q s

abbrev pub Reach : Quant → (ℕ → ℕ → Bool) → (ℕ → Bool) → (ℕ → Bool) → ℕ → Type 0
Reach E step p q s = Some step p q s
Reach A step p q s = All step p q s

-- the set z below n is sound, with no place but those reached, and closed: it has q, and each place of p that steps into it
pub record Table (k : Quant) (n : ℕ) (step : ℕ → ℕ → Bool) (p q z : ℕ → Bool) : Type 0 where
  pub sound : (s : ℕ) → s < n → z s ≡ true → Reach k step p q s
  pub here : (s : ℕ) → s < n → q s ≡ true → z s ≡ true
  pub back : (s : ℕ) → s < n → p s ≡ true → Onto k step (So z) s → z s ≡ true

-- s is not in z yet, and a closed set has it
pub record Joins (k : Quant) (step : ℕ → ℕ → Bool) (p z : ℕ → Bool) (s : ℕ) : Type 0 where
  pub out : z s ≡ false
  pub pass : p s ≡ true
  pub onto : Onto k step (So z) s

-- the set y has grown from z by places that are reached, none of them from n on
pub record Grew (k : Quant) (n : ℕ) (step : ℕ → ℕ → Bool) (p z y : ℕ → Bool) : Type 0 where
  pub sound : (s : ℕ) → s < n → y s ≡ true → Reach k step p z s
  pub grows : (s : ℕ) → z s ≡ true → y s ≡ true
  pub beyond : (s : ℕ) → n ≤ s → y s ≡ z s

-- the set y is the table of q, and as q from n on
pub record Grown (k : Quant) (n : ℕ) (step : ℕ → ℕ → Bool) (p q y : ℕ → Bool) : Type 0 where
  pub table : Table k n step p q y
  pub beyond : (s : ℕ) → n ≤ s → y s ≡ q s
