-- `first_outside` meets its contract. The invariant: the first from here is the first of all. Assumes nothing.
use Rattle.slips.proofs.Steps.{outside-last, outside-here, outside-right, outside-other, outside-first}
use native.Mathlib.Omega.{arith}
use Prim.Native.Nat.{◌-◌}
use mathlib.Core.Path.{sym, ◌∙◌}
use Rattle.slips.proofs.first_outside.Goals as goal

pub loop-at-init : goal.loop-at-init
loop-at-init c = (outside-first c.args.range 10 c.args.within c.args.text.now, omega arith)

pub returns-then-outside : goal.returns-then-outside
returns-then-outside c =
    let b = rw (c.is_digit.ensures, c.is_digit-in-loop-at.ensures) at c.if-is_digit.true in
    let o = rw (c.outside.ensures, c.value_at-v.ensures) at c.if-outside.true in
    sym (c.loop-at.invariant.0 ∙ outside-here c.args.range c.args.text.now c.args.within c.loop-at.at c.loop-at.p c.loop-at-test.true c.requires b o ∙ sym (c.named.ensures ∙ rw c.value_at-v.ensures))

pub loop-at-preserved-then-is_digit : goal.loop-at-preserved-then-is_digit
loop-at-preserved-then-is_digit c =
    let b = rw (c.is_digit.ensures, c.is_digit-in-loop-at.ensures) at c.if-is_digit.true in
    let o = rw (c.outside.ensures, c.value_at-v.ensures) at c.if-outside.false in
    (c.loop-at.invariant.0 ∙ outside-right c.args.range c.args.text.now c.args.within c.loop-at.at c.loop-at.p c.loop-at-test.true c.requires b o, omega arith)

pub loop-at-preserved : goal.loop-at-preserved
loop-at-preserved c =
    let b = rw (c.is_digit.ensures, c.is_digit-in-loop-at.ensures) at c.if-is_digit.false in
    (c.loop-at.invariant.0 ∙ outside-other c.args.range c.args.text.now c.args.within c.loop-at.at c.loop-at.p c.loop-at-test.true c.requires b, omega arith)

pub returns : goal.returns
returns c =
    sym (c.loop-at.invariant.0 ∙ outside-last c.args.range c.args.text.now c.args.within c.loop-at.at c.loop-at.p c.loop-at-test.false)
