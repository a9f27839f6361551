use mathlib.Core.Path.{◌≡◌}
use Prim.Native.Nat.{◌+◌, ◌*◌}
use lib.ListN.{length}
use Rattle.graph.specs.Graphs.{entries, edges_at, step_of}
use Rattle.flow.specs.Edges.{Holds, with_self}
use Rattle.flow.proofs.add_self_steps.Given as goal

abbrev pub invariant-loop-s : goal.invariant-loop-s
invariant-loop-s l =
    (length l.edges ≡ entries) × Holds l.n l.edges l.count (2 * l.n + l.s) (with_self l.n (step_of l.n (edges_at l.initial.edges)) l.s)
