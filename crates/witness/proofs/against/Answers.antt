-- `witness::against` meets its contract: what bears the dual out speaks against the operator. Assumes nothing.
use Rattle.witness.proofs.Trails.{all-possible, against-shown}
use Rattle.bits.specs.Row.{member}
use Rattle.witness.proofs.against.Goals as goal

pub bears-requires-clause-possible : goal.bears-requires-clause-possible
bears-requires-clause-possible c =
    let h = c.requires.s_lt_n in
    let t = c.turn.ensures _ c.requires.room.0.whole in
    rw c.dual_of.ensures (all-possible c.requires.directions_at.directions.graph c.args.op (member c.args.of.p.now) (member c.args.of.q.now) _ _ h.0 _ _ t.0 t.1 h.1 h.2)

pub returns : goal.returns
returns c =
    let h = c.requires.s_lt_n in
    let t = c.turn.ensures _ c.requires.room.0.whole in
    against-shown c.requires.directions_at.directions.graph c.args.op (member c.args.of.p.now) (member c.args.of.q.now) (member c.args.row.now) _ h.0 _ _ t.0 t.1 _ _ _ _ (rw c.dual_of.ensures at c.bears.ensures)
