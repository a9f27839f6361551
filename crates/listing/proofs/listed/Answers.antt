use Rattle.listing.proofs.Counts.{both-counted}
use Rattle.listing.proofs.listed.Goals as goal

pub returns : goal.returns
returns c = both-counted _ _ _ c.ones_from.ensures c.ones_from-2.ensures
