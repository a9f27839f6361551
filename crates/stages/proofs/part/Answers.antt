-- `part` meets its contract: the part that is lent on is the place. Assumes nothing.
use Rattle.bits.proofs.Tables.{part-row, part_length}
use Rattle.stages.specs.Stages.{place_room}
use Rattle.stages.proofs.Places.{place-fits}
use Rattle.stages.proofs.part.Goals as goal

pub returns : goal.returns
returns c =
    let fits = place-fits c.args.stages.now c.args.k c.requires.0 c.requires.1 in
    (part-row place_room c.args.stages.now c.args.k fits, part_length place_room c.args.stages.now c.args.k fits)
