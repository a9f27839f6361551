use Rattle.slips.specs.Slips.{most_number, value_behind}
use lib.ListN.{length, drop}
use Prim.Native.Nat.{◌-◌, ◌≤◌}
use mathlib.Core.Path.{◌≡◌}
use Rattle.slips.proofs.value_at.Given as goal

abbrev pub invariant-loop-at : goal.invariant-loop-at
invariant-loop-at l = (value_behind 0 (drop l.from l.text) ≡ value_behind l.v (drop l.at l.text)) × (l.at ≤ length l.text) × (l.v ≤ most_number)

abbrev pub decreases-loop-at : goal.decreases-loop-at
decreases-loop-at l = length l.text - l.at
