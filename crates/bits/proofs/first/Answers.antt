-- `bits::first` meets its contract. The words before k have no member.
-- Assumes nothing.
use native.Mathlib.Omega.{arith}
use Rattle.bits.proofs.Counts.{none-word, first_word}
use Rattle.bits.proofs.first.Goals as goal

pub returns-then-word-ne0 : goal.returns-then-word-ne0
returns-then-word-ne0 c =
    first_word _ _ c.loop-k.invariant (omega arith) c.if-word-ne0.true (c.type_inv.row c.loop-k.k).fits

pub loop-k-preserved : goal.loop-k-preserved
loop-k-preserved c = none-word _ _ c.loop-k.invariant c.if-word-ne0.false
