use Rattle.std.proofs.Common.{rules}
use Rattle.tokens.proofs.Steps.{at-end}
use Rattle.statement_reader.proofs.Lines.{statement-first, first-other}
use Rattle.statement_reader.specs.Parsing.{by_first, parse_statement}
use Rattle.statement_reader.proofs.statement.Goals as goal

pub returns-in_err-get-clause-result_value : goal.returns-in_err-get-clause-result_value
unfolding parse_statement
returns-in_err-get-clause-result_value c = rw (c.from_residual.ensures, at-end _ _ c.in_err-get.ensures.lookup.3)

pub returns-in-114-clause-result_value : goal.returns-in-114-clause-result_value
unfolding by_first
returns-in-114-clause-result_value c =
    let h = c.in_ok-get.ensures.lookup.3 in rw (statement-first _ _ h.0, ← h.1 0, c.in-114.is) c.read_statement.ensures.result_value

pub returns-in-119-clause-result_value : goal.returns-in-119-clause-result_value
unfolding by_first
returns-in-119-clause-result_value c =
    let h = c.in_ok-get.ensures.lookup.3 in rw (statement-first _ _ h.0, ← h.1 0, c.in-119.is) c.write_statement.ensures.result_value

pub returns-in-115-clause-result_value : goal.returns-in-115-clause-result_value
unfolding by_first
returns-in-115-clause-result_value c =
    let h = c.in_ok-get.ensures.lookup.3 in rw (statement-first _ _ h.0, ← h.1 0, c.in-115.is) c.skip_statement.ensures.result_value

pub returns-in-105-clause-result_value : goal.returns-in-105-clause-result_value
unfolding by_first
returns-in-105-clause-result_value c =
    let h = c.in_ok-get.ensures.lookup.3 in rw (statement-first _ _ h.0, ← h.1 0, c.in-105.is) c.assignment_or_branch.ensures.result_value

pub returns-in_default-clause-result_value : goal.returns-in_default-clause-result_value
returns-in_default-clause-result_value c = let h = c.in_ok-get.ensures.lookup.3 in rw (statement-first _ _ h.0, ← h.1 0) (search (rules, first-other))
