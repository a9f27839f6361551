-- `price_of` meets its contract. Assumes nothing.
use Rattle.pricing.proofs.price_of.Goals as goal

pub returns : goal.returns
returns c = rw c.kind_of.ensures.0
