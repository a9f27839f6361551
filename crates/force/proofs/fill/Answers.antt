-- `fill` meets its contract. Assumes nothing.
use native.Mathlib.Omega.{arith}
use Rattle.flow.proofs.Successors.{statements-size}
use Rattle.table.specs.Fill.{SomeHeld}
use Rattle.table.proofs.Whole.{held-some, held-few}
use Rattle.driver_reader.specs.Names.{among}
use Rattle.tabulate.proofs.Tabulates.{condition-held}
use Rattle.force.proofs.Forces.{beyond-kept, filled}
use Rattle.force.proofs.fill.Goals as goal
use Rattle.force.proofs.fill.Goals.{In_ok-c}

-- the condition that was read
read-condition : (c : In_ok-c) → SomeHeld c.args.condition.now c.in_ok-c.c.count c.in_ok-c.c.words
read-condition c = condition-held _ _ c.read-3.result c.read-3.ensures c.in_ok-c.ensures.cases c.in_ok-c.ensures.variant

pub overflow_sub-count : goal.overflow_sub-count
overflow_sub-count c = omega (arith, held-some (read-condition (goal.at.overflow_sub-count c).In_ok-c).held)

pub row_of-goal-requires : goal.row_of-goal-requires
row_of-goal-requires c =
    let h = (read-condition (goal.at.row_of-goal-requires c).In_ok-c).held in
    omega (arith, held-some h, held-few h, c.if-table-lt-TABLE_WORDS.false, c.fill-summary.auto.table)

pub returns : goal.returns
returns c =
    let p = c.in_ok-p.ensures in
    let h = read-condition (goal.at.returns c).In_ok-c in
    let d = rw c.if-not-read.false at c.read-2.ensures in
    let forced = rw c.row_of-goal.ensures at (c.of.ensures.by_index (among d.0) d.2) in
    filled h.held p.0 c.if-table-lt-TABLE_WORDS.false (c.fill-summary.ensures.table h.c h.held) c.fill-summary.ensures.counts d.1 forced
    (beyond-kept (statements-size _ p.1) c.of.auto.numbers c.of.auto.arms c.of.ensures.kept)
