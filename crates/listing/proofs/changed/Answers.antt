-- `listing::changed` meets its contract: the invariant is the contract at place s. Assumes nothing.
use mathlib.Core.Path.{ap, ◌∙◌}
use mathlib.Core.Bool.{not}
use native.Mathlib.Omega.{arith}
use Rattle.bits.proofs.Rows.{zeros-member}
use Rattle.labelling.proofs.Labels.{label-skip, label-join}
use Rattle.listing.proofs.Lists.{place-differs}
use Rattle.listing.proofs.changed.Goals.{then-not-same_statement, else-not-same_statement}
use Rattle.listing.proofs.changed.Goals as goal

pub loop-s-init : goal.loop-s-init
loop-s-init c =
    (c.blank_row-row.ensures.size, record { exact = λ s l. absurd (omega arith); beyond = λ s l. zeros-member c.blank_row-row.ensures s })

pub loop-s-preserved : goal.loop-s-preserved
loop-s-preserved c =
    let told = rw (c.statement_of-j.ensures, c.statement_of-i.ensures) at c.same_statement.ensures in
    let differs =
    place-differs c.args.p c.args.q c.requires.0 c.requires.1 c.requires.2 c.loop-s.s c.loop-s-test.true c.same_statement.result told in
    elim c.if-not-same_statement.branch [
      | then-not-same_statement w ↦ rw w.row-is (w.insert.auto.row ∙ c.loop-s.invariant.0, label-join _ _ _ c.loop-s.invariant.1 (differs.0 (ap not w.if-not-same_statement.true)) _ w.insert.ensures)
      | else-not-same_statement w ↦ rw w.row-is (c.loop-s.invariant.0, label-skip _ _ _ c.loop-s.invariant.1 (not c.same_statement.result) differs (ap not w.if-not-same_statement.false))
    ]
