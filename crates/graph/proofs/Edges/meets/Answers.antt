-- `graph::Edges::meets` meets its contract. The invariant is `Passed`: what was passed is not `want` in the set. The measure is the position,
-- which falls along the links. Assumes nothing.
use mathlib.Core.Path.{sym, ap, ◌∙◌}
use Rattle.bits.specs.Row.{member}
use Rattle.graph.proofs.Walk.{passed-next, passed-met, passed_over, beq_same, beq-differ}
use Rattle.graph.proofs.Edges.meets.Goals as goal

pub returns-then-contains-want : goal.returns-then-contains-want
returns-then-contains-want c =
    passed-met _ _ _ _ _ _ _ c.loop-k.invariant c.loop-k-test.true
    (ap (member c.args.set.now) (sym c.from.ensures) ∙ sym c.contains.ensures ∙ beq_same _ _ c.if-contains-want.true)

pub loop-k-preserved : goal.loop-k-preserved
loop-k-preserved c =
    passed-next _ _ _ _ _ _ _ c.loop-k.invariant c.loop-k-test.true _ c.from-k-in-loop-k.ensures
    (λ e. beq-differ _ _ c.if-contains-want.false (c.contains.ensures ∙ ap (member c.args.set.now) c.from.ensures ∙ e))

pub returns : goal.returns
returns c = passed_over _ _ _ _ _ _ _ c.loop-k.invariant c.loop-k-test.false
