-- `advance` meets its contract. Assumes nothing.
use mathlib.Core.Path.{sym, ◌∙◌}
use native.Mathlib.Omega.{arith}
use Rattle.viable.proofs.Stops.{low, inside}
use Rattle.condition_blame.proofs.Steps.{step-digit, step_end, step_row, step-byte, step_other}
use Rattle.condition_blame.proofs.advance.Goals as goal

pub overflow_sub-result : goal.overflow_sub-result
overflow_sub-result c = low c.args.s.bound c.args.s.value c.args.c (sym c.more.ensures ∙ c.if-more.true)

pub returns-then-more-clause-result_after : goal.returns-then-more-clause-result_after
returns-then-more-clause-result_after c =
    sym (step-digit c.args.s.bound c.args.s.value c.args.c c.args.s.top c.args.stack.now (sym c.more.ensures ∙ c.if-more.true))

pub returns-then-more-clause-near : goal.returns-then-more-clause-near
returns-then-more-clause-near c =
    let i = inside c.args.s.bound c.args.s.value c.args.c (sym c.more.ensures ∙ c.if-more.true) in
    let p = c.requires.growth_le_top in
    (omega arith, p.1, p.2, omega (arith, p.2))

pub returns-then-stack-top-clause-result_after : goal.returns-then-stack-top-clause-result_after
returns-then-stack-top-clause-result_after c =
    sym (step_end c.args.s.bound c.args.s.value c.args.c c.args.s.top c.args.stack.now (sym c.more.ensures ∙ c.if-more.false) c.if-stack-top.true)

pub returns-then-i-clause-result_after : goal.returns-then-i-clause-result_after
returns-then-i-clause-result_after c =
    c.row.ensures.result_after
    ∙ sym (step_row c.args.s.bound c.args.s.value c.args.c c.args.s.top c.args.stack.now (sym c.more.ensures ∙ c.if-more.false) c.if-stack-top.false c.if-i.true)

pub returns-then-i-c-clause-result_after : goal.returns-then-i-c-clause-result_after
returns-then-i-c-clause-result_after c =
    sym (step-byte c.args.s.bound c.args.s.value c.args.c c.args.s.top c.args.stack.now (sym c.more.ensures ∙ c.if-more.false) c.if-stack-top.false c.if-i.false c.if-i-c.true)

pub returns-clause-result_after : goal.returns-clause-result_after
returns-clause-result_after c =
    sym (step_other c.args.s.bound c.args.s.value c.args.c c.args.s.top c.args.stack.now (sym c.more.ensures ∙ c.if-more.false) c.if-stack-top.false c.if-i.false c.if-i-c.false)
