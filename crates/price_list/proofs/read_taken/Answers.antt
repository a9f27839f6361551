-- `read_taken` meets its contract: the text is taken, so it isn't refused. Assumes nothing.
use Rattle.program.proofs.RoundTrip.{taken-unique}
use Rattle.program.proofs.Unique.{taken_refused}
use Rattle.price_list.proofs.read_taken.Goals as goal

pub returns : goal.returns
returns c = let r = rw c.in-Ok.is at c.read.ensures in (λ P t. taken-unique r.0 t, r.1)

pub unreachable-requires : goal.unreachable-requires
unreachable-requires c = taken_refused _ c.requires.taken c.in_default.field-0 c.in_default.ensures
