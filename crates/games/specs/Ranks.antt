-- A proof device: what a function that computes the least numbers establishes of them, in terms of single steps.
use Rattle.std.specs.Prelude.{◌≡◌, Bool, true, false, ℕ, suc, ◌≤◌, ◌<◌}

-- `won s`: the driver can force q from s; `number s`: in how many steps
pub record Ranks (n : ℕ) (step : ℕ → ℕ → Bool) (mine q won : ℕ → Bool) (number : ℕ → ℕ) : Type 0 where
  pub here : (s : ℕ) → s < n → q s ≡ true → (won s ≡ true) × (number s ≡ 0)
  pub mine_on : (s : ℕ) → s < n → won s ≡ true → q s ≡ false → mine s ≡ true
      → ((t : ℕ) × (step s t ≡ true) × (won t ≡ true) × (number s ≡ suc (number t)))
  pub mine_least : (s t : ℕ) → s < n → mine s ≡ true → step s t ≡ true → won t ≡ true → (won s ≡ true) × (number s ≤ suc (number t))
  pub theirs_on : (s t : ℕ) → s < n → won s ≡ true → q s ≡ false → mine s ≡ false → step s t ≡ true → (won t ≡ true) × (number t < number s)
  pub theirs_most : (s : ℕ) → s < n → won s ≡ true → q s ≡ false → mine s ≡ false → ((t : ℕ) × (step s t ≡ true) × (number s ≡ suc (number t)))
  pub theirs_out : (s : ℕ) → s < n → won s ≡ false → mine s ≡ false → ((t : ℕ) × (step s t ≡ true) × (won t ≡ false))
