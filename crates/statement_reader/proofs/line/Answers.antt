use Rattle.statement_reader.proofs.Lines.{line-right}
use Rattle.statement_reader.proofs.line.Goals as goal

pub returns : goal.returns
returns c =
    line-right c.args.s.now c.args.at c.ended_statement.result c.ended_statement.ensures.result_in_bounds c.ended_statement.ensures.result_value
