-- `path_row` meets its contract: each direction is lent as its part of the numbers. Assumes nothing.
use mathlib.Core.Path.{sym}
use Rattle.table.proofs.Parts.{forward-size, backward-part, lent-ahead, lent-behind}
use Rattle.table.proofs.path_row.Goals as goal

pub slice_bounds-forward-end : goal.slice_bounds-forward-end
slice_bounds-forward-end c = sym (forward-size c.args.flow.now c.requires.both_ways.size)

pub label-requires : goal.label-requires
label-requires c = record { directions_at = lent-behind _ c.args.flow.now c.requires.both_ways; rows = c.requires.rows }

pub label-requires-else-back : goal.label-requires-else-back
label-requires-else-back c = record { directions_at = lent-ahead _ c.args.flow.now c.requires.both_ways; rows = c.requires.rows }

pub returns-then-back : goal.returns-then-back
returns-then-back c = rw c.if-back.true (rw (backward-part c.args.flow.now c.requires.both_ways.size) at c.label.ensures)

pub returns-else-back : goal.returns-else-back
returns-else-back c = rw c.if-back.false c.label-else-back.ensures
