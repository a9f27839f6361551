-- `walks::walk` meets its contract. The invariant is `Walking`, the measure the number of the place that it stands at. Assumes nothing.
use Rattle.walks.proofs.Steps.{walking-first, walking-low, walking-more, walking-last, walking-less}
use lib.ListN.{length-set}
use native.Mathlib.Omega.{arith}
use Prim.Native.Nat.{◌+◌}
use mathlib.Core.Path.{refl, ◌∙◌}
use Rattle.walks.proofs.walk.Goals as goal

pub loop-place-init : goal.loop-place-init
loop-place-init c = (refl, walking-first _ _ _ _ _ _ c.requires.some_numbered.0)

pub offset_bounds-numbers-place : goal.offset_bounds-numbers-place
offset_bounds-numbers-place c = omega (arith, c.well_formed, c.requires.some_numbered.1, c.loop-place.invariant.1.low)

pub bounds-numbers-place : goal.bounds-numbers-place
bounds-numbers-place c = omega (arith, c.requires.some_numbered.1, c.loop-place.invariant.1.low)

pub overflow_add-path : goal.overflow_add-path
overflow_add-path c = omega (arith, c.requires.linked.2, c.loop-place.invariant.1.low)

pub overflow_cast-path : goal.overflow_cast-path
overflow_cast-path c = omega (arith, c.requires.linked.2, c.loop-place.invariant.1.low)

pub bounds-path-k : goal.bounds-path-k
bounds-path-k c = omega (arith, c.requires.head_in_bounds, c.loop-place.invariant.0, c.loop-place.invariant.1.ends, walking-low _ _ _ c.requires.linked.1 _ _ _ _ _ _ c.loop-place.invariant.1 c.requires.some_numbered.0)

pub nearest-place-requires : goal.nearest-place-requires
nearest-place-requires c = record { linked = (c.requires.linked.0, c.requires.linked.1); s_in_bounds = (c.loop-place.invariant.1.low, c.requires.some_numbered.1) }

pub loop-place-smaller : goal.loop-place-smaller
loop-place-smaller c = walking-less _ _ _ c.requires.linked.1 _ _ _ _ _ _ c.loop-place.invariant.1 c.requires.some_numbered.0 c.loop-place-test.true _ c.nearest-place.ensures

pub overflow_add-path-2 : goal.overflow_add-path-2
overflow_add-path-2 c = omega (arith, c.requires.linked.2, c.loop-place.invariant.1.low)

pub overflow_cast-path-2 : goal.overflow_cast-path-2
overflow_cast-path-2 c = omega (arith, c.requires.linked.2, c.loop-place.invariant.1.low)

pub bounds-path-k-2 : goal.bounds-path-k-2
bounds-path-k-2 c = omega (arith, c.requires.head_in_bounds, c.loop-place.invariant.0, c.loop-place.invariant.1.ends, walking-low _ _ _ c.requires.linked.1 _ _ _ _ _ _ c.loop-place.invariant.1 c.requires.some_numbered.0)

pub shape_of-path : goal.shape_of-path
shape_of-path c = length-set c.loop-place.path c.loop-place.k (c.loop-place.place + 1) ∙ c.loop-place.invariant.0

pub loop-place-preserved : goal.loop-place-preserved
loop-place-preserved c =
    (length-set c.loop-place.path c.loop-place.k (c.loop-place.place + 1) ∙ c.loop-place.invariant.0, walking-more _ _ _ c.requires.linked.1 _ _ _ _ _ _ c.loop-place.invariant.1 c.requires.some_numbered.0 (omega (arith, c.requires.head_in_bounds, c.loop-place.invariant.0, c.loop-place.invariant.1.ends, walking-low _ _ _ c.requires.linked.1 _ _ _ _ _ _ c.loop-place.invariant.1 c.requires.some_numbered.0)) c.loop-place-test.true _ c.nearest-place.ensures)

pub returns : goal.returns
returns c = walking-last _ _ _ c.requires.linked.1 _ _ _ _ _ _ c.loop-place.invariant.1 c.requires.some_numbered.0 (omega (arith, c.requires.head_in_bounds, c.loop-place.invariant.0, c.loop-place.invariant.1.ends, walking-low _ _ _ c.requires.linked.1 _ _ _ _ _ _ c.loop-place.invariant.1 c.requires.some_numbered.0)) c.loop-place-test.false
