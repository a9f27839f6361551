-- `flow::draw` meets its contract: the edges forward stand in the first part of the numbers, and those backward in the second.
-- Assumes nothing.
use mathlib.Core.Path.{sym, ◌∙◌}
use native.Mathlib.Omega.{arith}
use lib.Seq.{length-take-le}
use Rattle.flow.proofs.Edges.{both-drawn}
use Rattle.flow.proofs.draw.Goals as goal

pub slice_bounds-connect-end-2 : goal.slice_bounds-connect-end-2
slice_bounds-connect-end-2 c = sym (length-take-le _ c.args.flow.now (omega (arith, c.requires.n_nonzero.2)))

pub connect-requires-clause-space : goal.connect-requires-clause-space
connect-requires-clause-space c = record { few = c.requires.n_nonzero.1; size = length-take-le _ c.args.flow.now (omega (arith, c.requires.n_nonzero.2)) }

pub returns : goal.returns
returns c =
    both-drawn _ c.args.first.now c.args.second.now c.args.flow.now c.connect.new.edges c.connect_back.new.edges c.requires.n_nonzero.1 c.requires.n_nonzero.2
    (c.connect.auto.edges ∙ sym ((sym (length-take-le _ c.args.flow.now (omega (arith, c.requires.n_nonzero.2)))))) c.connect_back.auto.edges _ _ _ _ c.connect.ensures c.connect_back.ensures
