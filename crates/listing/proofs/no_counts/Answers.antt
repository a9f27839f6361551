-- `listing::no_counts` meets its contract: the entries are zeros. Assumes nothing.
use Rattle.language.specs.Spelling.{variables}
use Rattle.bits.proofs.Rows.{zeros}
use Rattle.listing.proofs.no_counts.Goals as goal

pub returns : goal.returns
returns c = zeros variables
