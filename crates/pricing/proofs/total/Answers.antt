-- `total` meets its contract. The invariant: the prices before place s are summed. Assumes nothing.
use Rattle.std.proofs.Common.{◌≡◌, refl, sym, ◌∙◌, arith}
use Rattle.pricing.proofs.Columns.{sum_more}
use Rattle.pricing.proofs.total.Goals as goal

pub overflow_add-sum : goal.overflow_add-sum
overflow_add-sum c = omega (arith, c.loop-s.invariant.1, c.requires.0 c.loop-s.s)

pub loop-s-preserved : goal.loop-s-preserved
loop-s-preserved c =
    (sym (sum_more _ c.loop-s.s (omega (arith, c.requires.2, c.requires.1)) ∙ rw c.loop-s.invariant.0), omega (arith, c.loop-s.invariant.1, c.requires.0 c.loop-s.s))
