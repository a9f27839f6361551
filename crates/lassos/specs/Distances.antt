-- A proof device: what a search by breadth establishes of the distances that it gives to places, in terms of single steps;
-- proofs/Shortest.antt holds them to ways.
use Rattle.std.specs.Prelude.{◌≡◌, Bool, true, false, ℕ, suc, ◌≤◌, ◌<◌}

-- far s: in how many steps q is reached through p from s, a place of z
pub record Distances (n : ℕ) (step : ℕ → ℕ → Bool) (p q z : ℕ → Bool) (far : ℕ → ℕ) : Type 0 where
  pub here : (s : ℕ) → s < n → q s ≡ true → (z s ≡ true) × (far s ≡ 0)
  pub on : (s : ℕ) → s < n → z s ≡ true → q s ≡ false → (t : ℕ) × (p s ≡ true) × (step s t ≡ true) × (z t ≡ true) × (far s ≡ suc (far t))
  pub back : (s t : ℕ) → s < n → p s ≡ true → step s t ≡ true → z t ≡ true → (z s ≡ true) × (far s ≤ suc (far t))
