-- `expression_kind` meets its contract. Assumes nothing.
use Rattle.pricing.proofs.expression_kind.Goals as goal

pub returns-in-Binary : goal.returns-in-Binary
returns-in-Binary c = rw c.in-Binary.is c.operator_kind.ensures
