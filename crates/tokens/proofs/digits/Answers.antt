use Rattle.std.proofs.Common.{sym, ◌∙◌, arith, ◌<◌, length}
use Rattle.tokens.proofs.Steps.{at-end, digit-small, more-none, more-other, more-over, more-next}
use Rattle.tokens.proofs.digits.Goals as goal

pub overflow_add-n : goal.overflow_add-n
overflow_add-n c =
    let d : c.in-Some.d < 10 = digit-small _ _ (sym c.in-Some.is ∙ c.digit_of.ensures) in
    omega arith

pub returns-in_default-clause-result_value : goal.returns-in_default-clause-result_value
returns-in_default-clause-result_value c = sym (c.loop-k.invariant.1 ∙ more-other _ _ _ c.loop-k-test.true (sym c.in_default.is ∙ c.digit_of.ensures))

pub returns-then-n-gt-LARGEST-clause-result_value : goal.returns-then-n-gt-LARGEST-clause-result_value
returns-then-n-gt-LARGEST-clause-result_value c =
    sym (c.loop-k.invariant.1 ∙ more-over _ _ _ _ c.loop-k-test.true (sym c.in-Some.is ∙ c.digit_of.ensures) c.if-n-gt-LARGEST.true)

pub loop-k-preserved : goal.loop-k-preserved
loop-k-preserved c =
    (c.if-n-gt-LARGEST.false, c.loop-k.invariant.1 ∙ more-next _ _ _ _ c.loop-k-test.true (sym c.in-Some.is ∙ c.digit_of.ensures) c.if-n-gt-LARGEST.false)

pub returns-clause-result_value : goal.returns-clause-result_value
returns-clause-result_value c =
    let h = c.loop-k-test.false in
    rw (at-end c.args.s.now (length c.args.s.now) (omega arith)) (sym (c.loop-k.invariant.1 ∙ rw (at-end c.args.s.now c.loop-k.k h) more-none))
