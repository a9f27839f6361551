-- `tabulate` meets its contract. Assumes nothing.
use Rattle.tabulate.proofs.Tabulates.{condition-held, tabulated}
use Rattle.tabulate.proofs.tabulate.Goals as goal

pub returns : goal.returns
returns c =
    let h = condition-held _ _ c.read-2.result c.read-2.ensures c.in_ok-c.ensures.cases c.in_ok-c.ensures.variant in
    tabulated h.held c.in_ok-p.ensures.0 c.if-table-lt-TABLE_WORDS.false (c.fill-summary.ensures.table h.c h.held) c.fill-summary.ensures.counts
