-- `forcing::rank` meets its contract. The invariant is `Going`, the measure the places that are not taken from the queue.
-- Assumes nothing.
use mathlib.Core.Bool.{◌||◌}
use mathlib.Core.Path.{refl, ap, ◌∙◌}
use Prim.Native.Nat.{ℕ}
use native.Mathlib.Omega.{arith}
use lib.Dec.{eqb}
use Rattle.bits.specs.Row.{member}
use Rattle.forcing.proofs.Steps.{going-first, going-low, going-take, going-last}
use Rattle.forcing.proofs.rank.Goals as goal

pub loop-at-init : goal.loop-at-init
loop-at-init c = (refl, refl, refl, refl, going-first _ _ _ _ _ c.requires.turned.graph _ _ _ _ _ c.start-hi.ensures c.clear.ensures c.requires.rest_value)

pub offset_bounds-queue-at : goal.offset_bounds-queue-at
offset_bounds-queue-at c = omega (arith, c.requires.space.small, (going-low _ _ _ _ _ _ _ _ _ _ _ c.loop-at.invariant.4 c.loop-at-test.true).0)

pub bounds-queue-at : goal.bounds-queue-at
bounds-queue-at c = omega (arith, c.requires.space.queue_room, c.loop-at.invariant.3, c.start-hi.auto.queue, (going-low _ _ _ _ _ _ _ _ _ _ _ c.loop-at.invariant.4 c.loop-at-test.true).0)

pub visit-hi-requires : goal.visit-hi-requires
visit-hi-requires c =
    let z = c.requires.space in record {
      turned = c.requires.turned;
      space = record {
        mine_room = z.mine_room;
        set_room = omega (arith, z.set_room, c.loop-at.invariant.0, c.insert.auto.row, c.clear.auto.row);
        numbers_size = c.loop-at.invariant.2 ∙ c.start-hi.auto.numbers ∙ z.numbers_size;
        queue_room = omega (arith, z.queue_room, c.loop-at.invariant.3, c.start-hi.auto.queue);
        small = z.small;
      };
      visit = going-take _ _ _ _ _ _ _ _ _ _ _ c.loop-at.invariant.4 c.loop-at-test.true _ (λ j. c.insert.ensures j ∙ ap (λ (i : ℕ). member c.loop-at.set j || eqb i j) c.wide.ensures) _ c.requires.turned.opposite;
    }

pub loop-at-smaller : goal.loop-at-smaller
loop-at-smaller c = omega (arith, (going-low _ _ _ _ _ _ _ _ _ _ _ c.loop-at.invariant.4 c.loop-at-test.true).0)

pub returns : goal.returns
returns c = going-last _ _ _ _ _ _ _ _ _ _ _ c.loop-at.invariant.4 c.requires.turned.graph c.loop-at-test.false
