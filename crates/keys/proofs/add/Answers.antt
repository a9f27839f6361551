-- `add` meets its contract. Assumes nothing.
use Rattle.keys.proofs.Lists.{store-more}
use mathlib.Core.Path.{refl}
use Rattle.keys.proofs.add.Goals as goal

pub returns : goal.returns
returns c = record { store = store-more c.requires.formed.1 _ c.requires.formed.0 c.requires.count_lt_most_tables _ c.hash_of-h.ensures.0 c.hash_of-h.ensures.1; entries_after = refl }
