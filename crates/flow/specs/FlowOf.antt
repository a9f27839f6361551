-- A proof device: where a control-flow graph stands in lent numbers, and what it means that it is that of a program.
use Rattle.std.specs.Prelude.{◌≡◌, List, ℕ, ◌+◌, ◌<◌, length, take, drop}
use Rattle.language.specs.declared.Statement.{Statement}
use Rattle.graph.specs.Graphs.{Edges, entries, edges_at, step_of, Directions}
use Rattle.ctl.specs.Paths as paths
use Rattle.flow.specs.Flow.{steps}

-- the edges in both directions
pub record Flow : Type 0 where
  pub forward : Edges
  pub backward : Edges

-- both directions' numbers, forward first; the code's ENTRIES
abbrev pub flow_entries : ℕ
flow_entries = entries + entries

abbrev pub flow_at : List ℕ → Flow
flow_at ws = record { forward = edges_at (take entries ws); backward = edges_at (drop entries ws) }

-- the edges in each direction are the model's steps; they make a graph ("All paths are thus infinite"), and the other direction's turn it
-- around
pub record FlowOf (P : List Statement) (f : Flow) : Type 0 where
  pub forward : Directions (length P) f.forward f.backward
  pub backward : Directions (length P) f.backward f.forward
  pub exact_forward : (s t : ℕ) → s < length P → step_of (length P) f.forward s t ≡ steps P paths.forward s t
  pub exact_backward : (s t : ℕ) → s < length P → step_of (length P) f.backward s t ≡ steps P paths.backward s t
