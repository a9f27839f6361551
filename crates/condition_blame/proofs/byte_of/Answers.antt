-- `byte_of` meets its contract: the text is short, and the table is that of the definitions. Assumes nothing.
use mathlib.Core.Path.{refl}
use Rattle.condition_blame.specs.Blame.{long, short}
use Rattle.condition_blame.specs.Search.{table}
use Rattle.condition_blame.proofs.byte_of.Goals as goal

pub returns-then-text-gt-MOST_BYTES : goal.returns-then-text-gt-MOST_BYTES
returns-then-text-gt-MOST_BYTES c = long c.if-text-gt-MOST_BYTES.true refl

pub stop-requires : goal.stop-requires
unfolding table
stop-requires c = record { text_len_bound = c.if-text-gt-MOST_BYTES.false; table_value = refl }

pub returns : goal.returns
returns c = short c.if-text-gt-MOST_BYTES.false c.stop.ensures
