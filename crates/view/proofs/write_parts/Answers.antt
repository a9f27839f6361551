-- `write_parts` meets its contract. The invariant: the lines of the parts before k are written. Assumes nothing.
use Prim.Native.Nat.{◌-◌}
use native.Mathlib.Omega.{arith}
use Rattle.condition.proofs.Words.{stands-order, stands-within}
use Rattle.view.proofs.Parts.{none-shown, shown-length, room-few, cut, part_room, shown-more, all_shown}
use Rattle.view.proofs.write_parts.Goals as goal

pub loop-k-init : goal.loop-k-init
loop-k-init c = none-shown c.requires

pub offset_bounds-words-k : goal.offset_bounds-words-k
offset_bounds-words-k c = let f = room-few c.loop-k.invariant c.loop-k-test.true in record { fits = omega arith }

pub bounds-words-k : goal.bounds-words-k
bounds-words-k c = room-few c.loop-k.invariant c.loop-k-test.true

pub slice_bounds-write_part-count : goal.slice_bounds-write_part-count
slice_bounds-write_part-count c = stands-order (cut c.loop-k.invariant c.loop-k-test.true)

pub slice_bounds-write_part-start : goal.slice_bounds-write_part-start
slice_bounds-write_part-start c = stands-order (cut c.loop-k.invariant c.loop-k-test.true)

pub slice_bounds-write_part-end : goal.slice_bounds-write_part-end
slice_bounds-write_part-end c = stands-within (cut c.loop-k.invariant c.loop-k-test.true)

pub write_part-to-requires : goal.write_part-to-requires
write_part-to-requires c =
    let h = c.loop-k-test.true in
    record { k_lt_most_parts = room-few c.loop-k.invariant h; text_in_bounds = part_room c.loop-k.invariant h }

pub loop-k-preserved : goal.loop-k-preserved
loop-k-preserved c =
    shown-more c.loop-k.invariant c.loop-k-test.true c.write_part-to.ensures

pub returns : goal.returns
returns c = all_shown c.loop-k.invariant c.loop-k-test.false
