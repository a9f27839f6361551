-- `run_of` meets its contract: there is a run where both texts are taken and the budget is allowed. Assumes nothing.
use native.Mathlib.Omega.{arith}
use Rattle.program.proofs.Unique.{taken_refused}
use Rattle.start.proofs.Unique.{taken_wrong, start-unique}
use Rattle.transcript.proofs.run_of.Goals as goal

pub returns-in_default : goal.returns-in_default
returns-in_default c = λ P vs input budget a. taken_wrong a.start c.in_default.field-0 c.in_default.ensures

pub returns-in_default-read : goal.returns-in_default-read
returns-in_default-read c = λ P vs input budget a. taken_refused c.args.program.now a.taken c.in_default-read.field-0 c.in_default-read.ensures

pub returns-then-taken-gt-MOST_STEPS : goal.returns-then-taken-gt-MOST_STEPS
returns-then-taken-gt-MOST_STEPS c = λ P vs input budget a. omega (arith, c.if-taken-gt-MOST_STEPS.true, a.allowed, (start-unique c.in-Ok.ensures a.start).1)
