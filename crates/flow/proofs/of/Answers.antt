-- `flow::of` meets its contract. The invariant is `Listed`: the successors of the statements before place s are there. The lists of edges
-- hold the steps of the successors, and these are the model's (`flow-of`). Assumes nothing.
use mathlib.Core.Path.{sym}
use Prim.Native.Nat.{ℕ}
use native.Mathlib.Omega.{arith}
use Rattle.program.proofs.Held.{held-targets}
use Rattle.program.specs.Reading.{statements}
use Rattle.flow.proofs.Successors.{graph-room, statements-size, successors-inside, listed_more, listed-all}
use Rattle.flow.proofs.Graphs.{flow-of}
use lib.ListN.{length-replicate}
use Rattle.graph.specs.Graphs.{places}
use Rattle.flow.proofs.of.Goals as goal

pub loop-s-preserved : goal.loop-s-preserved
loop-s-preserved c =
    let p = c.args.p in
    (listed_more p c.requires.held _ _ (length-replicate {A = ℕ} places 0) (length-replicate {A = ℕ} places 0) _ _ c.loop-s.s c.loop-s.invariant _ _ c.loop-s-test.true (rw c.statement_of-t.ensures at c.successors_of-r.ensures))

pub draw-requires-clause-inside : goal.draw-requires-clause-inside
draw-requires-clause-inside c =
    let p = c.args.p in
    let size = statements-size p c.requires.held in
    rw size at
    (successors-inside _ _ _ c.requires.well_formed (listed-all p c.requires.held _ _ (length-replicate {A = ℕ} places 0) (length-replicate {A = ℕ} places 0) _ _ c.loop-s.s c.loop-s.invariant c.loop-s-test.false))

pub returns : goal.returns
returns c =
    let p = c.args.p in
    flow-of (statements p) c.requires.well_formed _ _ (listed-all p c.requires.held _ _ (length-replicate {A = ℕ} places 0) (length-replicate {A = ℕ} places 0) _ _ c.loop-s.s c.loop-s.invariant c.loop-s-test.false) _ (sym (statements-size p c.requires.held)) _ _ c.draw.ensures.ahead c.draw.ensures.behind

pub successors_of-r-requires : goal.successors_of-r-requires
successors_of-r-requires c =
    let p = c.args.p in
    (omega (arith, graph-room _ c.requires.held.few), rw c.statement_of-t.ensures (held-targets p.entries p.count c.loop-s.s (rw (statements-size p c.requires.held) c.loop-s-test.true) c.requires.well_formed))
