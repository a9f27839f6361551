-- `fill` meets its contract. The invariant: the parts before k are filled. Assumes nothing.
use Rattle.table.proofs.Tables.{part-ready, so_far_more}
use Rattle.table.proofs.fill.Goals as goal

pub fill_part-requires : goal.fill_part-requires
fill_part-requires c =
    let x = c.requires.some_known in
    let h = c.requires.some_held in
    record { P = x.P; c = h.c; ready = part-ready c.loop-k.invariant c.loop-k-test.true x.P h.c x.known h.held }

pub loop-k-preserved : goal.loop-k-preserved
loop-k-preserved c =
    let l = c.loop-k-test.true in
    so_far_more c.loop-k.invariant l c.requires.some_known c.requires.some_held _ (λ P d x h. c.fill_part.ensures P d (part-ready c.loop-k.invariant l P d x h))
