-- `stop` meets its contract. The invariant: the bytes before the position are read. Assumes nothing.
use borrow.Author.Rules.{rules}
use Rattle.condition_blame.proofs.Going.{going-none, going_more, going-stops, going-ends, going-spelled}
use Rattle.condition_blame.proofs.stop.Goals as goal

pub loop-at-init : goal.loop-at-init
loop-at-init c = going-none c.args.text.now c.blank-stack.result c.requires.text_len_bound c.blank-stack.ensures

pub returns-in_default : goal.returns-in_default
returns-in_default c =
    going-stops c.loop-at.invariant c.loop-at-test.true _ c.in_default.is c.advance.ensures.result_after

pub loop-at-preserved : goal.loop-at-preserved
loop-at-preserved c =
    going_more c.loop-at.invariant c.loop-at-test.true _ _ c.in-Some.is c.advance.ensures.result_after c.advance.ensures.near (search rules)

pub returns-then-top-lt-ROOM : goal.returns-then-top-lt-ROOM
returns-then-top-lt-ROOM c = going-ends c.loop-at.invariant c.loop-at-test.false c.if-top-lt-ROOM.true

pub returns : goal.returns
returns c = going-spelled c.loop-at.invariant c.loop-at-test.false c.if-top-lt-ROOM.false
