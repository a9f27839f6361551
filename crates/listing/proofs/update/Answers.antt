-- `listing::update` meets its contract: the bits of the changed places are written as in the new program's list. Assumes nothing.
use mathlib.Core.Path.{◌∙◌}
use Rattle.atoms.proofs.Found.{placeless, count-size}
use Rattle.listing.proofs.Lists.{updated}
use Rattle.listing.proofs.update.Goals as goal

pub find-requires : goal.find-requires
find-requires c = record { held = c.requires.held.1; well_formed = c.requires.well_formed; placeless = placeless c.blank-fresh.ensures }

pub returns : goal.returns
returns c =
    let given = count-size c.args.p c.requires.held.0 in
    let same = count-size c.args.q c.requires.held.1 ∙ c.requires.held.2 in
    updated _ _ _ _ _ c.merge.ensures c.find.ensures _ _ given same c.changed-places.ensures.1
