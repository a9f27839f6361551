-- `atoms::note_kept` meets its contract. The invariant: the rows of the first k kept variables are marked. Assumes nothing.
use Rattle.atoms.proofs.Found.{marked-unkept, marked-kept}
use Rattle.atoms.proofs.note_kept.Goals as goal

pub loop-k-init : goal.loop-k-init
loop-k-init c = marked-unkept _ _

pub loop-k-preserved : goal.loop-k-preserved
loop-k-preserved c = marked-kept c.loop-k.k c.loop-k.invariant c.use_also.ensures
