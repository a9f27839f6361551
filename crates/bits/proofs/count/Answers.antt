-- `bits::count` meets its contract. The sum is the number of members in the words before the index.
-- Assumes nothing.
use mathlib.Core.Path.{refl, ap₂, sym, ◌∙◌}
use Prim.Native.Nat.{◌+◌, ◌*◌}
use native.Mathlib.Omega.{arith}
use lib.Count.{ones-le}
use lib.ListN.{get_or}
use Rattle.bits.specs.Row.{member, count_below}
use Rattle.bits.proofs.Counts.{count-le, ones-count, count_word}
use Rattle.bits.proofs.count.Goals as goal

pub loop-word-init : goal.loop-word-init
unfolding count_below
loop-word-init c = refl

pub overflow_add-n : goal.overflow_add-n
overflow_add-n c =
    let row = c.args.row.now in
    omega (arith, count-le (member row) (c.loop-word.word-index * 64), ones-le 64 (get_or row c.loop-word.word-index 0) (c.type_inv.row c.loop-word.word-index).fits)

pub loop-word-preserved : goal.loop-word-preserved
loop-word-preserved c =
    ap₂ ◌+◌ c.loop-word.invariant (ones-count 64 _ (c.type_inv.row c.loop-word.word-index).fits) ∙ sym (count_word _ _)
