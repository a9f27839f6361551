-- `in_force` meets its contract. The invariant: the first k prices of the table are counted. Assumes nothing.
use Rattle.std.proofs.Common.{◌≡◌, ◌+◌, ◌<◌, ℕ, List, sym, ◌∙◌, length, take, get_or, set, rules}
use Rattle.pricing.specs.Prices.{counted, in_force}
use Rattle.pricing.proofs.InForce.{begun-force, more-force}
use Rattle.pricing.proofs.in_force.Goals as goal

pub loop-k-init : goal.loop-k-init
loop-k-init c = c.ours-prices.ensures ∙ sym begun-force

more : (ps found : List ℕ) (k n : ℕ) → found ≡ in_force (take k ps) → k < length ps → n ≡ counted (get_or ps k 0) (get_or found k 0) → set found k n ≡ in_force (take (k + 1) ps)
more ps found k n i h e = rw (e, i) (more-force ps k h)

pub loop-k-preserved : goal.loop-k-preserved
loop-k-preserved c = more _ _ c.loop-k.k _ c.loop-k.invariant (search rules) c.counted.ensures
