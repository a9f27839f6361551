-- `explain::witness` meets its contract. Assumes nothing.
use Rattle.tabulate.proofs.Tabulates.{condition-held}
use Rattle.explain.proofs.witness.Goals as goal

pub returns : goal.returns
returns c = c.at_statement.ensures _ _ c.in_ok-p.ensures.0 (condition-held _ _ c.read-2.result c.read-2.ensures c.in_ok-c.ensures.cases c.in_ok-c.ensures.variant).held
