-- `whole` meets its contract: the text ends with the condition, or spells none. Assumes nothing.
use Rattle.condition_reader.proofs.Answers.{whole-not, whole-more, whole-found}
use Rattle.condition_reader.proofs.whole.Goals as goal

pub returns-in_err-parts : goal.returns-in_err-parts
returns-in_err-parts c =
    rw c.from_residual.ensures (whole-not c.args.text.now c.args.out.now c.condition.new.out c.in_err-parts.ensures.reads)

pub returns-then-next-text : goal.returns-then-next-text
returns-then-next-text c =
    let r = c.in_ok-parts in
    whole-more c.args.text.now c.args.out.now c.condition.new.out r.next r.parts r.ensures.reads c.if-next-text.true

pub returns : goal.returns
returns c =
    let r = c.in_ok-parts in
    whole-found c.args.text.now c.args.out.now c.condition.new.out r.next r.parts r.ensures.reads c.if-next-text.false
