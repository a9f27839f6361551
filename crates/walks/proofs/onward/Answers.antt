-- `walks::onward` meets its contract: the edges that are skipped lead to places that are to be avoided. Assumes nothing.
use Rattle.walks.proofs.Steps.{skipped-to}
use Rattle.worklist.specs.Worklist.{Skipped}
use Rattle.graph.proofs.Walk.{linked-from}
use Rattle.bits.specs.Row.{member}
use lib.ListN.{get_or}
use native.Mathlib.Omega.{arith}
use Rattle.walks.proofs.onward.Goals as goal

pub skip-k-requires : goal.skip-k-requires
skip-k-requires c = record { from = rw c.wide.ensures (linked-from _ _ _ c.args.s c.requires.linked.0); n_in_bounds = c.requires.linked.2 }

pub overflow_sub-k : goal.overflow_sub-k
overflow_sub-k c =
    let w : Skipped c.args.steps.link.now c.args.steps.to.now (member c.args.avoid.now) (get_or c.args.steps.head.now c.args.s 0) c.skip-k.result = rw c.wide.ensures at c.skip-k.ensures in
    (skipped-to _ _ _ _ _ _ (linked-from _ _ _ c.args.s c.requires.linked.0) w c.requires.by_index.0 c.requires.by_index.1 c.requires.by_index.2).0

pub bounds-steps-k : goal.bounds-steps-k
bounds-steps-k c =
    let w : Skipped c.args.steps.link.now c.args.steps.to.now (member c.args.avoid.now) (get_or c.args.steps.head.now c.args.s 0) c.skip-k.result = rw c.wide.ensures at c.skip-k.ensures in
    (skipped-to _ _ _ _ _ _ (linked-from _ _ _ c.args.s c.requires.linked.0) w c.requires.by_index.0 c.requires.by_index.1 c.requires.by_index.2).1

pub returns : goal.returns
returns c =
    let w : Skipped c.args.steps.link.now c.args.steps.to.now (member c.args.avoid.now) (get_or c.args.steps.head.now c.args.s 0) c.skip-k.result = rw c.wide.ensures at c.skip-k.ensures in
    let o = skipped-to _ _ _ _ _ _ (linked-from _ _ _ c.args.s c.requires.linked.0) w c.requires.by_index.0 c.requires.by_index.1 c.requires.by_index.2 in
    rw c.wide-2.ensures (o.2, o.3)
