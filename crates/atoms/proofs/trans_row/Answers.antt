-- `atoms::trans_row` meets its contract: what defines an operand's variable is taken out of the row of all places. Assumes nothing.
use Rattle.atoms.proofs.Rows.{beyond-clear, single-kept, binary-kept}
use Rattle.atoms.proofs.trans_row.Goals as goal

pub returns-in-Single : goal.returns-in-Single
returns-in-Single c =
    rw c.in-Single.is (λ P codes f. single-kept P c.args.n c.args.rows.now codes f _ _ c.below.ensures c.in-Single.a (c.keeping.ensures P c.args.n codes f (beyond-clear c.args.n _ c.below.ensures)))

pub returns-in-Binary : goal.returns-in-Binary
returns-in-Binary c =
    rw c.in-Binary.is
    (λ P codes f.
    let left = c.keeping-in-Binary.ensures P c.args.n codes f (beyond-clear c.args.n _ c.below.ensures) in
    binary-kept P c.args.n c.args.rows.now codes f _ _ c.below.ensures _ c.in-Binary.a c.in-Binary.b c.in-Binary.field-1 left (c.keeping-in-Binary-2.ensures P c.args.n codes f left.beyond))
