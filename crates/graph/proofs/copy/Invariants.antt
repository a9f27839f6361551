use mathlib.Core.Path.{◌≡◌}
use lib.ListN.{length, take}
use Rattle.graph.proofs.copy.Given as goal

abbrev pub invariant-loop-k : goal.invariant-loop-k
invariant-loop-k l = (length l.to ≡ length l.from) × (take l.k l.to ≡ take l.k l.from)
