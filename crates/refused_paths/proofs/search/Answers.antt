-- `search` meets its contract: each direction is lent as its part of the numbers. Assumes nothing.
use mathlib.Core.Path.{sym}
use native.Mathlib.Omega.{arith}
use Rattle.table.proofs.Parts.{forward-size, backward-part, lent-ahead, lent-behind}
use Rattle.refused_paths.proofs.search.Goals as goal

pub slice_bounds-forward-end : goal.slice_bounds-forward-end
slice_bounds-forward-end c = sym (forward-size c.args.flow.now c.requires.both_ways.0.size)

pub leave-requires : goal.leave-requires
leave-requires c =
    let b = c.requires.both_ways in
    let h = rw c.if-back.true at c.requires.s_lt_n in
    record { directions_at = lent-behind _ c.args.flow.now b.0; n_in_bounds = (omega (arith, b.1, b.2), omega (arith, b.1, b.3), b.4); s_lt_n = (h.0, rw (backward-part c.args.flow.now b.0.size) h.1) }

pub returns-then-back : goal.returns-then-back
returns-then-back c = rw c.if-back.true (rw (backward-part c.args.flow.now c.requires.both_ways.0.size) at c.leave.ensures)

pub leave-requires-2 : goal.leave-requires-2
leave-requires-2 c =
    let b = c.requires.both_ways in
    record { directions_at = lent-ahead _ c.args.flow.now b.0; n_in_bounds = (omega (arith, b.1, b.2), omega (arith, b.1, b.3), b.4); s_lt_n = rw c.if-back.false at c.requires.s_lt_n }

pub returns : goal.returns
returns c = rw c.if-back.false c.leave-2.ensures
