-- `fill` meets its contract. The invariant: the tables before k are filled. Assumes nothing.
use Rattle.review_tables.proofs.Filled.{entry_ready, so_far_more}
use Rattle.review_tables.proofs.fill.Goals as goal

pub fill_entry-requires : goal.fill_entry-requires
fill_entry-requires c =
    let x = c.requires.some_known in
    let s = c.requires.some_shares in
    record { P = x.P; ds = _; ready = entry_ready c.loop-k.invariant c.loop-k-test.true x.P s.ps x.known s.shares }

pub loop-k-preserved : goal.loop-k-preserved
loop-k-preserved c =
    let l = c.loop-k-test.true in
    so_far_more c.loop-k.invariant l c.requires.some_known c.requires.some_shares _ (λ P ps x s. c.fill_entry.ensures P _ (entry_ready c.loop-k.invariant l P ps x s))
