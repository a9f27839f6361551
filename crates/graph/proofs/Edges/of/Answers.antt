-- `graph::Edges::of` meets its contract: the first n of the heads are the first n numbers.
-- Assumes nothing.
use mathlib.Core.Path.{sym}
use Rattle.std.proofs.lemmas.List.{take-take}
use Rattle.graph.specs.Graphs.{places}
use Rattle.graph.proofs.Edges.of.Goals as goal

pub returns-clause-head : goal.returns-clause-head
returns-clause-head c = sym (take-take c.args.n places c.args.numbers.now c.requires.0)
