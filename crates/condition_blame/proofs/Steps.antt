-- One byte of the text, as the code reads it. Assumes nothing.
use mathlib.Core.Path.{◌≡◌}
use mathlib.Core.List.{List}
use mathlib.Core.Bool.{true, false}
use Prim.Native.Nat.{ℕ, ◌+◌, ◌-◌, ◌*◌, ◌≤◌, ◌<◌}
use lib.ListN.{length, get_or, drop, drop_of_length-le}
use borrow.Author.Tests.{eq-eqb, ne_eqb}
use Rattle.viable.specs.Grammar.{capital, expand, at, nowhere, more, expanded, step}
use Rattle.condition_blame.proofs.Search.{at_byte}

module _ (b n c top : ℕ) (q : List ℕ) where
  pub step-digit : more b n c ≡ true → step b n (drop top q) c ≡ at b (n * 10 + (c - 48)) (drop top q)
  unfolding step
  step-digit e = rw e

  module _ (none : more b n c ≡ false) where
    pub step_end : length q ≤ top → step b n (drop top q) c ≡ nowhere
    unfolding step
    step_end h = rw (none, drop_of_length-le q h)

    module _ (h : top < length q) where
      pub step_row : capital (get_or q top 0) ≡ true → step b n (drop top q) c ≡ expanded (expand (get_or q top 0) c) (get_or q top 0) c (drop (top + 1) q)
      unfolding step
      step_row e = rw (none, at_byte q top h, e)

      pub step-byte : capital (get_or q top 0) ≡ false → get_or q top 0 ≡ c → step b n (drop top q) c ≡ at 0 0 (drop (top + 1) q)
      unfolding step
      step-byte e f = rw (none, at_byte q top h, e, eq-eqb (get_or q top 0) c f)

      pub step_other : capital (get_or q top 0) ≡ false → (get_or q top 0 ≡ c → ⊥) → step b n (drop top q) c ≡ nowhere
      unfolding step
      step_other e f = rw (none, at_byte q top h, e, ne_eqb (get_or q top 0) c f)
