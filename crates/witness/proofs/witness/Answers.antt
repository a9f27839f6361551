-- `witness::witness` meets its contract. Assumes nothing.
use Rattle.witness.proofs.Trails.{all-cut, some-possible}
use Rattle.bits.specs.Row.{member}
use Rattle.witness.proofs.witness.Goals as goal

pub against-requires-clause-s_lt_n : goal.against-requires-clause-s_lt_n
against-requires-clause-s_lt_n c = rw c.if-all.true at c.requires.s_lt_n

pub bears-requires-clause-possible : goal.bears-requires-clause-possible
bears-requires-clause-possible c =
    let h = rw c.if-all.false at c.requires.s_lt_n in
    some-possible c.requires.directions_at.directions.graph _ (member c.args.p.now) (member c.args.q.now) _ _ h.0 _ (all-cut _ _ c.below.ensures (member c.args.row.now) _ c.difference.ensures) h.1 h.2
