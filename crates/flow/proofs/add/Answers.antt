-- `flow::add` meets its contract: one edge more, in the direction that `turned` names.
-- Assumes nothing.
use Rattle.flow.proofs.Edges.{added-straight, added-turned}
use Rattle.flow.proofs.add.Goals as goal

pub returns-then-turned : goal.returns-then-turned
returns-then-turned c = λ n few ls lt g. added-turned n _ _ _ _ _ _ _ c.if-turned.true (c.add.ensures n few lt ls g)

pub returns-else-turned : goal.returns-else-turned
returns-else-turned c = λ n few ls lt g. added-straight n _ _ _ _ _ _ _ c.if-turned.false (c.add-else-turned.ensures n few ls lt g)
