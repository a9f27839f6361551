use Rattle.condition_slip.proofs.Closing.{NoneBefore}
use Prim.Native.Nat.{◌-◌, ◌≤◌}
use Rattle.condition_slip.proofs.closes.Given as goal

abbrev pub invariant-loop-k : goal.invariant-loop-k
invariant-loop-k l = NoneBefore l.text l.end l.k × (l.k ≤ l.end)

abbrev pub decreases-loop-k : goal.decreases-loop-k
decreases-loop-k l = l.end - l.k
