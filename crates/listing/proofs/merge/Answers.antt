-- `listing::merge` meets its contract: the words below m are merged. Assumes nothing.
use native.Mathlib.Omega.{arith}
use Rattle.listing.proofs.Sets.{merged-all}
use Rattle.listing.proofs.merge.Goals as goal

pub returns : goal.returns
returns c = merged-all _ _ _ _ _ c.loop-m.invariant c.requires.places_len.0 c.requires.places_len.1 c.requires.list_words_in_bounds (omega arith)
