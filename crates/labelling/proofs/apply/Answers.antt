-- `labelling::apply` meets its contract: one law of proofs/Labels.antt for each operator.
-- Assumes nothing.
use Rattle.bits.specs.Row.{member}
use Rattle.labelling.proofs.Labels.{next-label, finally-label, until-label, globally-label, weak-label}
use Rattle.labelling.proofs.apply.Goals as goal

pub returns-in-Next : goal.returns-in-Next
returns-in-Next c =
    rw c.in-Next.is (next-label c.args.all _ _ c.requires.directions_at.directions.graph _ c.requires.spare.whole (member c.args.p.now) _ c.next.ensures)

pub returns-in-Finally : goal.returns-in-Finally
returns-in-Finally c =
    rw c.in-Finally.is
    (finally-label c.args.all _ _ c.requires.directions_at.directions.graph _ c.requires.spare.whole (member c.args.p.now) _ _ c.intersection.ensures c.until.ensures)

pub returns-in-Until : goal.returns-in-Until
returns-in-Until c =
    rw c.in-Until.is
    (until-label c.args.all _ _ c.requires.directions_at.directions.graph _ c.requires.spare.whole _ (member c.args.q.now) _ _ c.intersection-in-Until.ensures c.until-in-Until.ensures)

pub returns-in-Globally : goal.returns-in-Globally
returns-in-Globally c =
    rw c.in-Globally.is
    (globally-label c.args.all _ _ c.requires.directions_at.directions.graph _ c.requires.spare.whole (member c.args.p.now) _ _ _ c.difference.ensures c.until-in-Globally.ensures c.complement.ensures)

pub returns-in-Weak : goal.returns-in-Weak
returns-in-Weak c =
    rw c.in-Weak.is
    (weak-label c.args.all _ _ c.requires.directions_at.directions.graph _ c.requires.spare.whole (member c.args.p.now) (member c.args.q.now) _ _ _ _
    c.difference-in-Weak.ensures c.difference-in-Weak-2.ensures c.until-in-Weak.ensures c.complement-in-Weak.ensures)
