use mathlib.Core.Path.{◌≡◌}
use Prim.Native.Nat.{ℕ, ◌≤◌, ◌<◌}
use lib.ListN.{get_or}
use Rattle.bits.proofs.change.Given as goal

abbrev pub invariant-loop-k : goal.invariant-loop-k
invariant-loop-k g l =
    ((m : ℕ) → m < l.k → goal.F-post g l.operation (get_or l.a m 0) (get_or l.initial.row m 0) (get_or l.row m 0)) × ((m : ℕ) → l.k ≤ m → get_or l.row m 0 ≡ get_or l.initial.row m 0)
