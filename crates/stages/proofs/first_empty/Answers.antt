-- `first_empty` meets its contract. The invariant: all places before k hold a stage. Assumes nothing.
use Rattle.base.proofs.Decides.{decided-true}
use Rattle.stages.proofs.Looking.{known-empty, full-more}
use Rattle.stages.proofs.first_empty.Goals as goal

-- the place has the name, under which no stage stands right
pub returns-then-begins : goal.returns-then-begins
returns-then-begins c =
    record {
      inside = c.loop-k-test.true;
      empty =
          known-empty c.args.stages.now c.args.name.now c.fill-key.result c.requires.1 c.fill-key.ensures c.loop-k.k c.requires.2
          (rw c.part.ensures.0 at (decided-true c.begins.result c.if-begins.true c.begins.ensures));
      before = c.loop-k.invariant;
    }

pub loop-k-preserved : goal.loop-k-preserved
loop-k-preserved c =
    full-more c.args.stages.now c.loop-k.k c.loop-k.invariant (decided-true c.occupied.result c.if-not-occupied.false c.occupied.ensures)
