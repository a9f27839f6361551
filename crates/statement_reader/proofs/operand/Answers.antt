use Rattle.std.proofs.Common.{sym, ◌∙◌}
use Rattle.statement_reader.proofs.Lines.{operand-none, operand-variable, operand-constant}
use Rattle.statement_reader.proofs.operand.Goals as goal

pub returns-in_err-get-clause-result_value : goal.returns-in_err-get-clause-result_value
returns-in_err-get-clause-result_value c = rw (c.from_residual.ensures, operand-none _ _ c.in_err-get.ensures.lookup.3)

pub returns-in_err-x-clause-result_value : goal.returns-in_err-x-clause-result_value
returns-in_err-x-clause-result_value c =
    let h = c.in_ok-get.ensures.lookup.3 in
    rw (c.from_residual-in_err-x.ensures, operand-variable _ _ h.0 (sym (h.1 0) ∙ c.if-branch-eq105.true), ← c.in_err-x.ensures.result_value)

pub returns-in_ok-x-clause-result_value : goal.returns-in_ok-x-clause-result_value
returns-in_ok-x-clause-result_value c =
    let h = c.in_ok-get.ensures.lookup.3 in
    rw (operand-variable _ _ h.0 (sym (h.1 0) ∙ c.if-branch-eq105.true), ← c.in_ok-x.ensures.result_value)

pub returns-in_err-n-clause-result_value : goal.returns-in_err-n-clause-result_value
returns-in_err-n-clause-result_value c =
    let h = c.in_ok-get.ensures.lookup.3 in
    rw (c.from_residual-in_err-n.ensures, operand-constant _ _ h.0 (λ e. c.if-branch-eq105.false (h.1 0 ∙ e)), ← c.in_err-n.ensures.result_value)

pub returns-in_ok-n-clause-result_value : goal.returns-in_ok-n-clause-result_value
returns-in_ok-n-clause-result_value c =
    let h = c.in_ok-get.ensures.lookup.3 in
    rw (operand-constant _ _ h.0 (λ e. c.if-branch-eq105.false (h.1 0 ∙ e)), ← c.in_ok-n.ensures.result_value)
