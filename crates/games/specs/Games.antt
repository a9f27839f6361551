-- What a player can force on a graph, by strategies and endless plays: document 02, Wish 10. Place s is statement s + 1; `step s t` says
-- that s steps to t. A play is a path; at the places of `mine` the driver picks the next place, at the others the unit does.
use Rattle.std.specs.Prelude.{◌≡◌, Bool, true, false, not, List, [], ◌∷◌, ℕ, zero, suc, ◌≤◌, ◌<◌}
use Rattle.ctl.specs.Paths.{Path}

-- the places of a play up to place i, the latest first
unfoldable pub sofar : (ℕ → ℕ) → ℕ → List ℕ
sofar π zero = π 0 ∷ []
sofar π (suc i) = π (suc i) ∷ sofar π i

-- a strategy names the next place, by all places so far
abbrev pub Strategy : Type 0
Strategy = List ℕ → ℕ

-- at the places of `mine` it names a step: one that named none would have no play, and would force everything
abbrev pub Legal : ℕ → (ℕ → ℕ → Bool) → (ℕ → Bool) → Strategy → Type 0
Legal n step mine σ = (s : ℕ) (h : List ℕ) → s < n → mine s ≡ true → step s (σ (s ∷ h)) ≡ true

-- the play goes as the strategy says at the places of `mine`
abbrev pub Follows : (ℕ → Bool) → Strategy → (ℕ → ℕ) → Type 0
Follows mine σ π = (i : ℕ) → mine (π i) ≡ true → π (suc i) ≡ σ (sofar π i)

-- "the driver can bring about p in some number of steps, however the unit answers": some strategy of his has X within k steps on every play
-- from s that follows it
abbrev pub ForcesWithin : ℕ → (ℕ → ℕ → Bool) → (ℕ → Bool) → (ℕ → Type 0) → ℕ → ℕ → Type 0
ForcesWithin n step mine X s k =
    (σ : Strategy) × Legal n step mine σ × ((π : ℕ → ℕ) → Path step s π → Follows mine σ π → (i : ℕ) × (i ≤ k) × X (π i))

-- "the unit must be able to avoid p for ever": some strategy of its own has X nowhere on any play from s that follows it
abbrev pub Avoids : ℕ → (ℕ → ℕ → Bool) → (ℕ → Bool) → (ℕ → Type 0) → ℕ → Type 0
Avoids n step mine X s =
    (τ : Strategy) × Legal n step (λ t. not (mine t)) τ
    × ((π : ℕ → ℕ) → Path step s π → Follows (λ t. not (mine t)) τ π → (i : ℕ) → X (π i) → ⊥)
