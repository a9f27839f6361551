-- `find` meets its contract. The invariant: no entry from p on has the key. Assumes nothing.
use Rattle.keys.proofs.Lists.{search-first, search-less, search-next, search-found, search-none}
use Rattle.base.proofs.Decides.{decided-true, decided-false}
use Rattle.keys.proofs.find.Goals as goal

pub loop-p-init : goal.loop-p-init
loop-p-init c = search-first c.requires.1 _ _ c.hash_of-h.ensures.0 c.hash_of-h.ensures.1

pub returns-then-same_key : goal.returns-then-same_key
returns-then-same_key c =
    search-found c.requires.1 _ c.loop-p.invariant c.loop-p-test.true (decided-true c.same_key.result c.if-same_key.true c.same_key.ensures)

pub loop-p-smaller : goal.loop-p-smaller
loop-p-smaller c =
    search-less c.requires.1 _ c.loop-p.invariant c.loop-p-test.true

pub loop-p-preserved : goal.loop-p-preserved
loop-p-preserved c =
    let other = decided-false c.same_key.result c.if-same_key.false c.same_key.ensures in
    search-next c.requires.1 _ c.loop-p.invariant c.loop-p-test.true other

pub returns : goal.returns
returns c = search-none c.requires.1 _ c.loop-p.invariant c.loop-p-test.false
