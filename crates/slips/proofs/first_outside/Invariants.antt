use Rattle.slips.specs.Slips.{first_outside}
use lib.ListN.{drop}
use Prim.Native.Nat.{◌-◌, ◌≤◌}
use mathlib.Core.Path.{◌≡◌}
use Rattle.slips.proofs.first_outside.Given as goal

abbrev pub invariant-loop-at : goal.invariant-loop-at
invariant-loop-at l = (first_outside l.range 10 l.within l.text ≡ first_outside l.range l.p (l.within - l.at) (drop l.at l.text)) × (l.at ≤ l.within)

abbrev pub decreases-loop-at : goal.decreases-loop-at
decreases-loop-at l = l.within - l.at
