-- `find` meets its contract. The invariant: no stage stands right under the name before place k. Assumes nothing.
use native.Mathlib.Omega.{arith}
use Rattle.base.proofs.Decides.{decided-false}
use Rattle.stages.proofs.Places.{nowhere-unknown}
use Rattle.stages.proofs.Looking.{name-not}
use Rattle.stages.proofs.find.Goals as goal

pub loop-k-preserved : goal.loop-k-preserved
loop-k-preserved c =
    name-not c.args.stages.now c.args.name.now c.fill-key.result c.requires.1 c.fill-key.ensures c.loop-k.k c.loop-k.invariant
    (rw c.part.ensures.0 at (decided-false c.stands.result c.if-stands.false c.stands.ensures))

pub returns : goal.returns
returns c = nowhere-unknown (λ j h. c.loop-k.invariant j (omega (arith, c.loop-k-test.false)))
