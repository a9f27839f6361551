-- `walks::circle` meets its contract. The invariant is `Circling`, the measure the places that were not passed. Assumes nothing.
use Rattle.walks.proofs.Steps.{circling-first, circling-onward, circling-low, circling-more, circling-last}
use lib.ListN.{length, length-set}
use native.Mathlib.Omega.{arith}
use Prim.Native.Nat.{◌+◌, ◌<◌}
use mathlib.Core.Path.{refl, ◌∙◌}
use Rattle.walks.proofs.circle.Goals as goal
use Rattle.walks.proofs.circle.Goals.{In-loop-seen}

pub loop-seen-init : goal.loop-seen-init
loop-seen-init c = (refl, c.blank-seen.ensures.size, circling-first _ _ _ _ _ _ c.requires.some_endless.0.endless.inside c.blank-seen.ensures.zero)

low : (c : In-loop-seen) → c.loop-seen.k < length c.args.steps.head.now
low c = circling-low _ _ _ _ c.requires.linked.1 c.requires.some_endless.0.endless.inside _ _ _ _ _ c.loop-seen.invariant.2 c.loop-seen-test.true (omega (arith, c.loop-seen.invariant.1, c.requires.linked.2))

pub bounds-path-k : goal.bounds-path-k
bounds-path-k c = omega (arith, c.requires.head_in_bounds, c.loop-seen.invariant.0, low (goal.at.bounds-path-k c).In-loop-seen)

pub overflow_add-k : goal.overflow_add-k
overflow_add-k c = omega (arith, c.requires.linked.2, low (goal.at.overflow_add-k c).In-loop-seen)

pub overflow_cast-seen : goal.overflow_cast-seen
overflow_cast-seen c = omega (arith, c.requires.linked.2, low (goal.at.overflow_cast-seen c).In-loop-seen)

pub onward-place-requires : goal.onward-place-requires
onward-place-requires c = record { linked = (c.requires.linked.0, c.loop-seen.invariant.2.low, c.requires.some_endless.1); by_index = circling-onward _ _ _ _ c.requires.linked.1 c.requires.some_endless.0.endless.inside _ _ _ _ _ c.loop-seen.invariant.2 c.requires.some_endless.0 }

pub loop-seen-smaller : goal.loop-seen-smaller
loop-seen-smaller c = omega (arith, low (goal.at.loop-seen-smaller c).In-loop-seen)

pub returns : goal.returns
returns c = circling-last _ _ _ _ c.requires.linked.1 c.requires.some_endless.0.endless.inside _ _ _ _ _ c.loop-seen.invariant.2 _ refl c.wide.ensures c.loop-seen-test.false

pub offset_bounds-path-k : goal.offset_bounds-path-k
offset_bounds-path-k c = omega (arith, c.well_formed, c.loop-seen.invariant.0, c.requires.head_in_bounds, low (goal.at.offset_bounds-path-k c).In-loop-seen)

pub loop-seen-preserved : goal.loop-seen-preserved
loop-seen-preserved c = (
  length-set c.loop-seen.path c.loop-seen.k (c.loop-seen.place + 1) ∙ c.loop-seen.invariant.0,
  length-set c.loop-seen.seen c.loop-seen.place (c.loop-seen.k + 1) ∙ c.loop-seen.invariant.1,
  circling-more _ _ _ _ c.requires.linked.1 c.requires.some_endless.0.endless.inside _ _ _ _ _ c.loop-seen.invariant.2 c.loop-seen-test.true (omega (arith, c.loop-seen.invariant.1, c.requires.linked.2)) (omega (arith, c.requires.head_in_bounds, c.loop-seen.invariant.0, low (goal.at.loop-seen-preserved c).In-loop-seen)) _ c.onward-place.ensures.0 c.onward-place.ensures.1,
)
