use mathlib.Core.Path.{◌≡◌}
use Prim.Native.Nat.{◌-◌, ◌≤◌}
use lib.ListN.{length}
use Rattle.bits.specs.Row.{member}
use Rattle.driver_reader.proofs.Reading.{Reading}
use Rattle.driver_reader.proofs.names.Given as goal

abbrev pub invariant-loop-at : goal.invariant-loop-at
invariant-loop-at l = (l.at ≤ l.n) × (length l.named ≡ length l.initial.named) × Reading l.s l.at (member l.named)

abbrev pub decreases-loop-at : goal.decreases-loop-at
decreases-loop-at l = l.n - l.at
