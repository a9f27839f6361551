-- `line` meets its contract. Assumes nothing.
use Rattle.prices.proofs.Spelling.{line-right}
use Rattle.prices.proofs.line.Goals as goal

pub returns : goal.returns
returns c = line-right c.args.s.now c.args.at c.price.result c.price.ensures.result_in_bounds c.price.ensures.result_value
