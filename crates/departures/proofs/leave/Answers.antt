-- `departures::leave` meets its contract: the nearest successor by the distances, and the way from there on. Assumes nothing.
use lib.ListN.{length-set}
use mathlib.Core.Path.{sym, ◌∙◌}
use native.Mathlib.Omega.{arith}
use Rattle.departures.proofs.Departures.{leave-numbered, leave-few, leave-left}
use Prim.Native.Nat.{◌+◌}
use Rattle.departures.proofs.leave.Goals as goal

pub measure-requires : goal.measure-requires
measure-requires c = let d = c.requires.directions_at.directions in record { opposite_len = (c.requires.directions_at.opposite_size, d.few); linked = d.back; n_in_bounds = (omega (arith, c.requires.n_in_bounds.0, c.requires.n_in_bounds.1), omega (arith, c.requires.n_in_bounds.0, c.requires.n_in_bounds.1), omega (arith, d.few)) }

pub nearest-u-requires : goal.nearest-u-requires
nearest-u-requires c =
    let d = c.requires.directions_at.directions in
    rw (c.of-steps.ensures.head, c.of-steps.ensures.link, c.of-steps.ensures.to) (record { linked = (d.forth, rw d.head_size d.graph); s_in_bounds = (omega (arith, d.head_size, c.requires.s_lt_n.0), omega (arith, d.head_size, d.few, c.measure.auto.numbers)) })

pub walk-requires : goal.walk-requires
walk-requires c =
    let d = c.requires.directions_at.directions in
    let f = c.measure.ensures.found.distances _ d.graph d.opposite in rw (c.of-steps.ensures.head, c.of-steps.ensures.link, c.of-steps.ensures.to) (record { linked = (d.forth, rw d.head_size d.graph, omega (arith, d.head_size, d.few)); some_numbered = (rw d.head_size (leave-numbered d.graph _ _ _ c.requires.s_lt_n.0 c.measure.new.numbers c.measure.ensures.by_index f c.requires.s_lt_n.1 _ (rw (c.of-steps.ensures.head, c.of-steps.ensures.link, c.of-steps.ensures.to) at c.nearest-u.ensures)), omega (arith, d.head_size, d.few, c.measure.auto.numbers)); head_in_bounds = omega (arith, d.head_size, c.requires.n_in_bounds.2, length-set c.args.path.now 0 (c.args.s + 1)) })

pub shape_of-path : goal.shape_of-path
shape_of-path c = c.walk.ensures.told.same ∙ length-set c.args.path.now 0 (c.args.s + 1)

pub returns : goal.returns
returns c =
    let d = c.requires.directions_at.directions in
    let f = c.measure.ensures.found.distances _ d.graph d.opposite in
    let w = rw (c.of-steps.ensures.head, c.of-steps.ensures.link, c.of-steps.ensures.to, d.head_size) at c.walk.ensures in
    let n = rw (c.of-steps.ensures.head, c.of-steps.ensures.link, c.of-steps.ensures.to) at c.nearest-u.ensures in
    (leave-left d.graph _ _ _ c.requires.s_lt_n.0 c.measure.new.numbers c.measure.ensures.by_index f c.requires.s_lt_n.1 _ n _ _ _ (omega (arith, c.requires.n_in_bounds.2)) w, leave-few d.graph _ _ _ c.requires.s_lt_n.0 c.measure.new.numbers c.measure.ensures.by_index f c.requires.s_lt_n.1 _ n _ _ _ w)
