-- `worklist::skip` meets its contract. The invariant is `Passed`: what was passed is in the set.
-- Assumes nothing.
use mathlib.Core.Path.{sym, ap, ◌∙◌}
use Rattle.bits.specs.Row.{member}
use Rattle.base.proofs.Bools.{clash}
use Rattle.graph.proofs.Walk.{passed-next}
use Rattle.worklist.proofs.skip.Goals as goal

pub loop-k-preserved : goal.loop-k-preserved
loop-k-preserved c =
    passed-next _ _ _ _ _ _ _ c.loop-k.invariant c.loop-k-test.true _ c.from-k.ensures
    (λ e. clash (ap (member c.args.set.now) (sym c.from.ensures) ∙ sym c.contains.ensures ∙ c.if-not-contains.false) e)
