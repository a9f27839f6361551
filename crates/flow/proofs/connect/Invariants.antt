use mathlib.Core.Path.{◌≡◌}
use Prim.Native.Nat.{◌*◌}
use lib.ListN.{length}
use Rattle.graph.specs.Graphs.{entries}
use Rattle.flow.specs.Edges.{Holds, turn, steps_below}
use Rattle.flow.proofs.connect.Given as goal

abbrev pub invariant-loop-k : goal.invariant-loop-k
invariant-loop-k l =
    (length l.edges ≡ entries) × Holds l.n l.edges l.count (2 * l.k) (turn l.turned (steps_below l.first l.second l.k))
