-- `bits::below` meets its contract. The words before the index hold the places below n, and `left` is what n leaves for the others.
-- Assumes nothing.
use mathlib.Core.Path.{◌≡◌, sym, ap, ◌∙◌}
use Prim.Native.Nat.{ℕ, ◌+◌, ◌-◌, ◌*◌, ◌<◌}
use native.Mathlib.Decide.{dec_lt}
use native.Mathlib.Omega.{arith}
use borrow.Author.Tests.{lt-ltb, le-ltb}
use lib.Dec.{ltb}
use Rattle.bits.proofs.Rows.{filled_none, filled_more, filled-member}
use Rattle.bits.proofs.below.Goals as goal

-- what n leaves past k words says of a bit what n says of its place
left_below : (n k b : ℕ) → ltb b (n - k * 64) ≡ ltb (k * 64 + b) n
left_below n k b = go (dec_lt (k * 64 + b) n)
  where
    go : Dec (k * 64 + b < n) → ltb b (n - k * 64) ≡ ltb (k * 64 + b) n
    go (yes l) = lt-ltb b (n - k * 64) (omega arith) ∙ sym (lt-ltb (k * 64 + b) n l)
    go (no l) = le-ltb b (n - k * 64) (omega arith) ∙ sym (le-ltb (k * 64 + b) n (omega arith))

pub loop-word-init : goal.loop-word-init
loop-word-init c = (omega arith, filled_none _ _)

pub loop-word-preserved : goal.loop-word-preserved
loop-word-preserved c =
    let n = c.args.n in (
      omega (arith, c.saturating_sub-left.ensures, c.loop-word.invariant.0),
      filled_more _ _ _ _ _ c.loop-word.invariant.1 (omega arith) (λ b l. c.mask.ensures b l ∙ ap (ltb b) c.loop-word.invariant.0 ∙ left_below n c.loop-word.word-index b),
    )

pub returns : goal.returns
returns c = filled-member _ _ _ _ c.loop-word.invariant.1 (omega arith) (λ j l. le-ltb j _ (omega arith))
