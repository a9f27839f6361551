use Rattle.std.proofs.Common.{◌≡◌, take}
use Rattle.pricing.specs.Prices.{in_force}
use Rattle.pricing.proofs.in_force.Given as goal

abbrev pub invariant-loop-k : goal.invariant-loop-k
invariant-loop-k l = l.prices ≡ in_force (take l.k l.table)
