-- `line_of_number` meets its contract. Assumes nothing.
use Rattle.refusal_line.proofs.line_of_number.Goals as goal

pub returns-in-9 : goal.returns-in-9
returns-in-9 c = record { listed = λ _. c.line_of.ensures; told = λ i. absurd (i c.in-9.is) }

pub returns-in_default : goal.returns-in_default
returns-in_default c = record { listed = λ i. absurd (c.in_default.in_default-own.rest.1 i); told = λ _. c.line_of_number.ensures }
