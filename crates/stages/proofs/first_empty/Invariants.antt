use Prim.Native.Nat.{ℕ, ◌<◌}
use Rattle.stages.specs.Choice.{Occupied}
use Rattle.stages.proofs.first_empty.Given as goal

abbrev pub invariant-loop-k : goal.invariant-loop-k
invariant-loop-k l = (j : ℕ) → j < l.k → Occupied l.stages j
