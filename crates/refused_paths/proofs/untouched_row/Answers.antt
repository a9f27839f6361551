-- `untouched_row` meets its contract: the rows of three atoms, cut out of each other. Assumes nothing.
use Rattle.refused_paths.proofs.Rows.{row_as, cut-row, keeps-iff}
use Rattle.refused_paths.proofs.untouched_row.Goals as goal

pub returns : goal.returns
returns c = λ P f.
    let e = c.args.e in
    let kept = c.row.ensures P f.size f.facts in
    let defined = c.row-2.ensures P f.size f.facts in
    let entry = c.row-3.ensures P f.size f.facts in
    row_as (λ t. (λ h. (h.0.1, (keeps-iff P e t).0 h.0.0, h.1), λ u. (((keeps-iff P e t).1 u.1, u.0), u.2))) (cut-row (cut-row kept defined c.difference.ensures) entry c.difference-2.ensures)
