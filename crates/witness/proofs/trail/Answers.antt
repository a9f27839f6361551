-- `witness::trail` meets its contract: a way by the distances where there is one, else a lasso. Assumes nothing.
use Rattle.witness.proofs.Trails.{trail-numbered, trail-way, trail-endless, trail-circle}
use native.Mathlib.Omega.{arith}
use mathlib.Core.Path.{sym}
use Rattle.witness.proofs.trail.Goals as goal

pub measure-requires : goal.measure-requires
measure-requires c = let d = c.requires.directions_at.directions in record { opposite_len = (c.requires.directions_at.opposite_size, d.few); linked = d.back; n_in_bounds = (c.requires.n_in_bounds.0, c.requires.n_in_bounds.1, omega (arith, d.few)) }

pub walk-end-requires : goal.walk-end-requires
walk-end-requires c =
    let d = c.requires.directions_at.directions in
    let f = c.measure.ensures.found.distances _ d.graph d.opposite in rw (c.of-steps.ensures.head, c.of-steps.ensures.link, c.of-steps.ensures.to) (record { linked = (d.forth, rw d.head_size d.graph, omega (arith, d.head_size, d.few)); some_numbered = (rw d.head_size (trail-numbered d.graph _ _ _ _ c.requires.ready c.measure.new.numbers c.measure.ensures.by_index f c.if-numbers-s.true), omega (arith, d.head_size, d.few, c.measure.auto.numbers)); head_in_bounds = omega (arith, d.head_size, c.requires.n_in_bounds.3.each) })

pub returns-then-numbers-s : goal.returns-then-numbers-s
returns-then-numbers-s c =
    let d = c.requires.directions_at.directions in
    let f = c.measure.ensures.found.distances _ d.graph d.opposite in
    trail-way d.graph _ _ _ _ c.requires.ready c.measure.new.numbers c.measure.ensures.by_index f c.if-numbers-s.true _ _ _ (rw (c.of-steps.ensures.head, c.of-steps.ensures.link, c.of-steps.ensures.to, d.head_size) at c.walk-end.ensures)

pub circle-requires : goal.circle-requires
circle-requires c =
    let d = c.requires.directions_at.directions in
    let f = c.measure.ensures.found.distances _ d.graph d.opposite in rw (c.of-steps.ensures.head, c.of-steps.ensures.link, c.of-steps.ensures.to) (record { linked = (d.forth, rw d.head_size d.graph, omega (arith, d.head_size, d.few)); some_endless = (rw d.head_size (trail-endless d.graph _ _ _ _ c.requires.ready c.measure.new.numbers c.measure.ensures.by_index f c.if-numbers-s.false), omega (arith, d.head_size, c.requires.n_in_bounds.2)); head_in_bounds = omega (arith, d.head_size, c.requires.n_in_bounds.3.each) })

pub returns : goal.returns
returns c =
    let d = c.requires.directions_at.directions in
    let f = c.measure.ensures.found.distances _ d.graph d.opposite in
    trail-circle d.graph _ _ _ _ c.requires.ready c.measure.new.numbers c.measure.ensures.by_index f c.if-numbers-s.false _ _ _ (rw (c.of-steps.ensures.head, c.of-steps.ensures.link, c.of-steps.ensures.to, d.head_size) at c.circle.ensures)
