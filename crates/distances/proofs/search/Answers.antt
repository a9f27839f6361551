-- `distances::search` meets its contract. The invariant is `Searched`, the measure the places that are not taken from the queue. Assumes nothing.
use Rattle.distances.proofs.Breadth.{searched-first, searched-low, searched-last}
use native.Mathlib.Omega.{arith}
use mathlib.Core.Path.{refl}
use Rattle.distances.proofs.search.Goals as goal

pub loop-at-init : goal.loop-at-init
loop-at-init c = (refl, refl, searched-first _ _ _ _ _ _ _ _ c.start-hi.ensures)

pub overflow_add-at : goal.overflow_add-at
overflow_add-at c = omega (arith, c.requires.space.small, (searched-low _ _ _ _ _ _ _ _ _ c.loop-at.invariant.2 c.loop-at-test.true).0)

pub loop-at-smaller : goal.loop-at-smaller
loop-at-smaller c = omega (arith, (searched-low _ _ _ _ _ _ _ _ _ c.loop-at.invariant.2 c.loop-at-test.true).0)

pub returns : goal.returns
returns c = searched-last _ _ _ _ _ _ _ _ _ c.loop-at.invariant.2 c.loop-at-test.false
