use Rattle.std.proofs.Common.{◌≡◌, ◌≤◌, ◌*◌, take}
use Rattle.pricing.specs.Prices.{sum as sum_of, most_price}
use Rattle.pricing.proofs.total.Given as goal

abbrev pub invariant-loop-s : goal.invariant-loop-s
invariant-loop-s l = (l.sum ≡ sum_of (take l.s l.prices)) × (l.sum ≤ l.s * most_price)
