-- `witness::bears` meets its contract: one law of proofs/Trails.antt for each operator. Assumes nothing.
use Rattle.witness.proofs.Trails.{all_true, all-cut, finally-ready, weak-ready, globally-ready, next-ready, next-shown, finally-shown, until-shown, globally-shown}
use Rattle.bits.specs.Row.{member}
use Rattle.witness.proofs.bears.Goals as goal

pub next-requires-clause-s_lt_n : goal.next-requires-clause-s_lt_n
next-requires-clause-s_lt_n c =
    let h = rw c.in-Next.is at c.requires.possible in
    (h.low, next-ready c.requires.directions_at.directions.graph _ _ _ _ _ (all-cut _ _ c.requires.room.0.whole (member c.args.of.p.now) _ c.difference.ensures) h)

pub trail-requires-clause-ready : goal.trail-requires-clause-ready
trail-requires-clause-ready c = finally-ready c.requires.directions_at.directions.graph _ _ _ _ _ (all_true _ _ c.requires.room.0.whole) (rw c.in-Finally.is at c.requires.possible)

pub trail-requires-in-Globally-clause-ready : goal.trail-requires-in-Globally-clause-ready
trail-requires-in-Globally-clause-ready c = globally-ready c.requires.directions_at.directions.graph _ _ _ _ _ c.clear.ensures (rw c.in-Globally.is at c.requires.possible)

pub trail-requires-in-Weak-clause-ready : goal.trail-requires-in-Weak-clause-ready
trail-requires-in-Weak-clause-ready c = weak-ready c.requires.directions_at.directions.graph _ _ _ _ (rw c.in-Weak.is at c.requires.possible)

pub returns-in-Next : goal.returns-in-Next
returns-in-Next c =
    rw c.in-Next.is (next-shown c.requires.directions_at.directions.graph (member c.args.of.p.now) (member c.args.of.q.now) (member c.args.avoid.now) _ c.requires.possible.low _ _ _ _ (all-cut _ _ c.requires.room.0.whole (member c.args.of.p.now) _ c.difference.ensures) c.next.ensures)

pub returns-in-Finally : goal.returns-in-Finally
returns-in-Finally c =
    let h = rw c.in-Finally.is at c.requires.possible in
    rw c.in-Finally.is (finally-shown c.requires.directions_at.directions.graph (member c.args.of.p.now) (member c.args.of.q.now) (member c.args.avoid.now) _ h.low _ _ _ _ (all_true _ _ c.requires.room.0.whole) h c.trail.ensures)

pub returns-in-Globally : goal.returns-in-Globally
returns-in-Globally c =
    rw c.in-Globally.is (globally-shown c.requires.directions_at.directions.graph (member c.args.of.p.now) (member c.args.of.q.now) (member c.args.avoid.now) _ c.requires.possible.low _ _ _ _ c.clear.ensures c.trail-in-Globally.ensures)

pub returns-in-Until : goal.returns-in-Until
returns-in-Until c =
    let h = rw c.in-Until.is at c.requires.possible in
    rw c.in-Until.is (until-shown c.requires.directions_at.directions.graph (member c.args.of.p.now) (member c.args.of.q.now) (member c.args.avoid.now) _ h.low _ _ _ h c.trail-in-Until.ensures)
