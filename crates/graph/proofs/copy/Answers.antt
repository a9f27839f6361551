-- `graph::copy` meets its contract. The invariant: the first k entries are copied.
-- Assumes nothing.
use mathlib.Core.Path.{refl, sym, ◌∙◌}
use native.Mathlib.Omega.{arith}
use lib.ListN.{length-set}
use lib.Seq.{take_all}
use Rattle.base.proofs.Copies.{copy_more}
use Rattle.graph.proofs.copy.Goals as goal

pub loop-k-init : goal.loop-k-init
loop-k-init c = (c.requires, refl)

pub loop-k-preserved : goal.loop-k-preserved
loop-k-preserved c = (length-set c.loop-k.to c.loop-k.k _ ∙ c.loop-k.invariant.0, copy_more _ c.loop-k.to c.loop-k.k c.loop-k.invariant.1 (omega arith) (omega arith))

pub returns : goal.returns
returns c = sym (take_all c.loop-k.k c.loop-k.to (omega arith)) ∙ c.loop-k.invariant.1 ∙ take_all c.loop-k.k c.args.from.now (omega arith)
