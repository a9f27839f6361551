-- `byte_at` meets its contract. Assumes nothing.
use Rattle.condition_slip.proofs.Closing.{within-at, behind-at}
use Rattle.condition_slip.proofs.byte_at.Goals as goal

pub returns-then-k-eq0 : goal.returns-then-k-eq0
returns-then-k-eq0 c = rw c.if-k-eq0.true

pub returns-then-text-k : goal.returns-then-text-k
returns-then-text-k c = behind-at c.args.text.now c.args.k c.if-text-k.true

pub returns : goal.returns
returns c = within-at c.args.text.now c.args.k c.if-k-eq0.false c.if-text-k.false
