-- `spoilt_rows` meets its contract: outside the sources, and outside the untouched places too. Assumes nothing.
use Rattle.refused_paths.proofs.Rows.{row_as, cut-row, out-row}
use Rattle.refused_paths.proofs.spoilt_rows.Goals as goal

pub returns : goal.returns
returns c = λ P f.
    let passes = out-row (c.source_row.ensures P f) c.outside.ensures in
    record { passes = passes; ends = row_as (λ t. (λ h. (h.1, h.0), λ h. (h.1, h.0))) (cut-row passes (c.untouched_row.ensures P f) c.difference.ensures) }
