-- `arms::of` meets its contract: his places, then the numbers by the lists of edges, then the arms by the numbers.
-- Assumes nothing.
use mathlib.Core.Path.{sym, ◌∙◌}
use native.Mathlib.Omega.{arith}
use lib.Seq.{length-take-le}
use Rattle.graph.specs.Graphs.{entries}
use Rattle.program.specs.Reading.{statements}
use Rattle.flow.proofs.Successors.{statements-size}
use Rattle.arms.proofs.Owned.{his-same}
use Rattle.arms.proofs.Forced.{lent-directions, forced-of}
use Rattle.arms.proofs.of.Goals as goal

pub slice_bounds-forward-end : goal.slice_bounds-forward-end
slice_bounds-forward-end c = sym (length-take-le entries c.args.flow.now (omega (arith, c.requires.lent.size)))

pub number-requires : goal.number-requires
number-requires c =
    let z = c.requires.lent in
    record { directions_at = lent-directions _ _ (statements-size c.args.p c.requires.held) c.args.flow.now z.size z.flows; n_in_bounds = (omega (arith, c.requires.held.few, c.blank-mine.ensures.size, c.own.auto.mine), z.goal_room, z.numbers_room) }

pub returns : goal.returns
returns c =
    let z = c.requires.lent in
    record { by_index = λ g same. forced-of _ _ (statements-size c.args.p c.requires.held) c.args.flow.now z.size z.flows _ _ g _ _ (λ s l. c.own.ensures s l ∙ his-same (statements c.args.p) same s) c.number.ensures.ranks c.number.ensures.by_index c.fill.ensures.arms_of; kept = record { numbers_kept = c.number.ensures.numbers_unchanged; arms_kept = c.fill.ensures.by_index } }
