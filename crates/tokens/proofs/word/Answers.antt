use Rattle.std.proofs.Common.{sym, ap, ◌∙◌, arith}
use Rattle.tokens.specs.Parsing.{passed}
use Rattle.tokens.proofs.Steps.{skip-end, skip-other, skip-same, skip-done}
use Rattle.tokens.proofs.word.Goals as goal

pub returns-in_err-get-clause-result_value : goal.returns-in_err-get-clause-result_value
returns-in_err-get-clause-result_value c =
    ap (passed _) c.from_residual.ensures ∙ sym (c.loop-c.invariant.0 ∙ skip-end _ _ _ _ c.loop-c-test.true c.in_err-get.ensures.lookup.3)

pub returns-then-branch-c-clause-result_value : goal.returns-then-branch-c-clause-result_value
returns-then-branch-c-clause-result_value c =
    let h = c.in_ok-get.ensures.lookup.3 in
    sym (c.loop-c.invariant.0 ∙ skip-other _ _ _ _ c.loop-c-test.true h.0 λ e. c.if-branch-c.true (h.1 0 ∙ e))

pub loop-c-preserved : goal.loop-c-preserved
loop-c-preserved c =
    let h = c.in_ok-get.ensures.lookup.3 in
    (c.loop-c.invariant.0 ∙ skip-same _ _ _ _ c.loop-c-test.true h.0 (sym (h.1 0) ∙ c.if-branch-c.false), λ _. omega arith)

pub returns-clause-result_value : goal.returns-clause-result_value
returns-clause-result_value c = sym (c.loop-c.invariant.0 ∙ skip-done c.args.w.now c.args.s.now c.loop-c.c-index c.loop-c.k c.loop-c-test.false)
