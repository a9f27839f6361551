use Rattle.slips.specs.Slips.{most_number, count_behind}
use lib.ListN.{length, drop}
use Prim.Native.Nat.{◌-◌, ◌≤◌}
use mathlib.Core.Path.{◌≡◌}
use Rattle.slips.proofs.count_lines.Given as goal

abbrev pub invariant-loop-at : goal.invariant-loop-at
invariant-loop-at l = (count_behind 0 l.text ≡ count_behind l.n (drop l.at l.text)) × (l.at ≤ length l.text) × (l.n ≤ most_number)

abbrev pub decreases-loop-at : goal.decreases-loop-at
decreases-loop-at l = length l.text - l.at
