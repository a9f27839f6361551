use Rattle.std.proofs.Common.{rules}
use Rattle.statement_reader.specs.Parsing.{parse_operator}
use Rattle.tokens.proofs.Steps.{at-end, at_byte}
use Rattle.statement_reader.proofs.Lines.{operator-other}
use Rattle.statement_reader.proofs.operator.Goals as goal

pub returns-in_err-get-clause-result_value : goal.returns-in_err-get-clause-result_value
unfolding parse_operator
returns-in_err-get-clause-result_value c = rw (c.from_residual.ensures, at-end _ _ c.in_err-get.ensures.lookup.3)

pub returns-in-43-clause-result_value : goal.returns-in-43-clause-result_value
unfolding parse_operator
returns-in-43-clause-result_value c = let h = c.in_ok-get.ensures.lookup.3 in rw (at_byte _ _ h.0, ← h.1 0, c.in-43.is)

pub returns-in-45-clause-result_value : goal.returns-in-45-clause-result_value
unfolding parse_operator
returns-in-45-clause-result_value c = let h = c.in_ok-get.ensures.lookup.3 in rw (at_byte _ _ h.0, ← h.1 0, c.in-45.is)

pub returns-in-42-clause-result_value : goal.returns-in-42-clause-result_value
unfolding parse_operator
returns-in-42-clause-result_value c = let h = c.in_ok-get.ensures.lookup.3 in rw (at_byte _ _ h.0, ← h.1 0, c.in-42.is)

pub returns-in-60-clause-result_value : goal.returns-in-60-clause-result_value
unfolding parse_operator
returns-in-60-clause-result_value c = let h = c.in_ok-get.ensures.lookup.3 in rw (at_byte _ _ h.0, ← h.1 0, c.in-60.is)

pub returns-in-61-clause-result_value : goal.returns-in-61-clause-result_value
unfolding parse_operator
returns-in-61-clause-result_value c = let h = c.in_ok-get.ensures.lookup.3 in rw (at_byte _ _ h.0, ← h.1 0, c.in-61.is)

pub returns-in-47-clause-result_value : goal.returns-in-47-clause-result_value
unfolding parse_operator
returns-in-47-clause-result_value c = let h = c.in_ok-get.ensures.lookup.3 in rw (at_byte _ _ h.0, ← h.1 0, c.in-47.is)

pub returns-in_default-clause-result_value : goal.returns-in_default-clause-result_value
returns-in_default-clause-result_value c = let h = c.in_ok-get.ensures.lookup.3 in rw (at_byte _ _ h.0, ← h.1 0) (search (rules, operator-other))
