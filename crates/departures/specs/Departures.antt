-- Ways that leave their place, as they stand in lent words. Place s is statement s + 1; `step s t` says that s steps to t.
use Rattle.std.specs.Prelude.{◌≡◌, List, Bool, ℕ, ◌<◌, length}
use Rattle.lassos.specs.Lassos.{place, last, Way, Shortest}
use Rattle.walks.specs.Told.{Told}

-- a way from s of one step or more: Y at its last place, and X at each place between the first and the last
pub record Departs (step : ℕ → ℕ → Bool) (X Y : ℕ → Type 0) (s : ℕ) (ls : List ℕ) : Type 0 where
  pub way : Way step s ls
  pub leaves : 1 < length ls
  pub ends : Y (place ls (last ls))
  pub between : (i : ℕ) → 0 < i → i < last ls → X (place ls i)

-- the first m words tell such a way, and none has fewer places; all other words are kept
pub record Left (step : ℕ → ℕ → Bool) (X Y : ℕ → Type 0) (s : ℕ) (old new : List ℕ) (m : ℕ) : Type 0 where
  pub ls : List ℕ
  pub counted : m ≡ length ls
  pub departs : Departs step X Y s ls
  pub shortest : Shortest step s (λ ks. Departs step X Y s ks) ls
  pub told : Told 0 ls old new
