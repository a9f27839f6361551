-- `row` meets its contract. Assumes nothing.
use mathlib.Core.List.{◌++◌}
use native.Mathlib.Omega.{arith}
use lib.ListN.{drop}
use Rattle.condition_blame.proofs.Search.{absent, present, present-short, row_fits, put_row}
use Rattle.condition_blame.proofs.row.Goals as goal

pub returns-in_err-items-clause-result_after : goal.returns-in_err-items-clause-result_after
returns-in_err-items-clause-result_after c =
    rw (absent c.args.table.now c.requires.table_value c.args.i c.args.c c.class_of.result c.class_of.ensures (c.in_err-items.ensures.absent), c.from_residual.ensures)

pub overflow_sub-first : goal.overflow_sub-first
overflow_sub-first c =
    let h = present-short c.args.table.now c.requires.table_value c.args.i c.args.c c.class_of.result c.class_of.ensures c.in_ok-items.ensures.some in
    omega (arith, c.requires.growth_bound, h)

pub copy_from_slice-requires : goal.copy_from_slice-requires
copy_from_slice-requires c =
    let h = present-short c.args.table.now c.requires.table_value c.args.i c.args.c c.class_of.result c.class_of.ensures c.in_ok-items.ensures.some in
    row_fits c.args.stack.now c.in_ok-items.items.now c.args.top (omega (arith, c.requires.growth_bound, h)) c.requires.growth_bound.1

pub returns-clause-result_after : goal.returns-clause-result_after
returns-clause-result_after c =
    let e = present c.args.table.now c.requires.table_value c.args.i c.args.c c.class_of.result c.class_of.ensures c.in_ok-items.ensures.some in
    let h = present-short c.args.table.now c.requires.table_value c.args.i c.args.c c.class_of.result c.class_of.ensures c.in_ok-items.ensures.some in
    let o = c.opened.ensures.top_value in
    let w = c.in_ok-items.items.now in
    rw (e, o.0, put_row c.args.stack.now w c.copy_from_slice.new.self c.args.top (omega (arith, c.requires.growth_bound, h)) c.requires.growth_bound.1 c.copy_from_slice.ensures.after) (c.opened.ensures.by_index (w ++ drop c.args.top c.args.stack.now))

pub returns-clause-near : goal.returns-clause-near
returns-clause-near c =
    let h = present-short c.args.table.now c.requires.table_value c.args.i c.args.c c.class_of.result c.class_of.ensures c.in_ok-items.ensures.some in
    let o = c.opened.ensures.top_value in
    (omega (arith, o.0, h), omega (arith, o.0), o.1, o.2)
