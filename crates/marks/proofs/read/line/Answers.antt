-- `line` meets its contract: what the parser finds is what is spelled. Assumes nothing.
use Rattle.marks.proofs.Spelling.{line-right}
use Rattle.marks.proofs.read.line.Goals as goal

pub returns : goal.returns
returns c =
    line-right c.args.s.now c.args.at c.mark.result c.mark.ensures.result_in_bounds c.mark.ensures.result_value
