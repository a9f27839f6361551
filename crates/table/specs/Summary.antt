-- The answer's counts: document 01, "Conditions", last sentence.
use Rattle.std.specs.Prelude.{◌≡◌, Bool, true, false, ◌⊎◌, ℕ, ◌+◌, ◌<◌}
use Rattle.bits.specs.Row.{count_below}

-- "how many statements satisfy it and the first of them (0 if none)", of a set of the places below n
pub record Counts (truth : ℕ → Bool) (n satisfied first : ℕ) : Type 0 where
  pub counted : satisfied ≡ count_below truth n
  pub earliest : ((first ≡ 0) × ((s : ℕ) → s < n → truth s ≡ false))
      ⊎ ((s : ℕ) × (first ≡ s + 1) × (s < n) × (truth s ≡ true) × ((j : ℕ) → j < s → truth j ≡ false))
