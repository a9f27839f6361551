-- `step` meets its contract: each arm is its clause of `perform`, and what it names lies in range, since the statement is valid.
use mathlib.Core.Path.{sym, ◌∙◌}
use native.Mathlib.Omega.{arith}
use borrow.Author.Tests.{eq-eqb, ne_eqb}
use Rattle.machine.proofs.step.Goals as goal

pub bounds-values-i : goal.bounds-values-i
bounds-values-i c = rw c.in-Read.is at c.requires.valid

pub bounds-values-i-in-Write : goal.bounds-values-i-in-Write
bounds-values-i-in-Write c = rw c.in-Write.is at c.requires.valid

pub evaluate-given-requires : goal.evaluate-given-requires
evaluate-given-requires c = (rw c.in-Assign.is at c.requires.valid).1

pub bounds-values-i-in-Some : goal.bounds-values-i-in-Some
bounds-values-i-in-Some c =
    (rw c.in-Assign.is at c.requires.valid).0

pub bounds-values-i-in-Branch : goal.bounds-values-i-in-Branch
bounds-values-i-in-Branch c = (rw c.in-Branch.is at c.requires.valid).0

pub overflow_sub-result : goal.overflow_sub-result
overflow_sub-result c = let t = rw c.in-Branch.is at c.requires.targets in omega (arith, t.1.0)

pub overflow_sub-result-else-values-i-eq0 : goal.overflow_sub-result-else-values-i-eq0
overflow_sub-result-else-values-i-eq0 c = let t = rw c.in-Branch.is at c.requires.targets in omega (arith, t.0.0)

pub returns-in-Read : goal.returns-in-Read
returns-in-Read c = rw c.in-Read.is

pub returns-in-Write : goal.returns-in-Write
returns-in-Write c = rw c.in-Write.is

pub returns-in-Some : goal.returns-in-Some
returns-in-Some c =
    rw c.in-Assign.is (rw (sym c.evaluate-given.ensures ∙ c.in-Some.is))

pub returns-in-None : goal.returns-in-None
returns-in-None c =
    rw c.in-Assign.is (rw (sym c.evaluate-given.ensures ∙ c.in-None.is))

pub returns-then-values-i-eq0 : goal.returns-then-values-i-eq0
returns-then-values-i-eq0 c = rw (c.in-Branch.is, eq-eqb _ _ c.if-values-i-eq0.true)

pub returns-else-values-i-eq0 : goal.returns-else-values-i-eq0
returns-else-values-i-eq0 c = rw (c.in-Branch.is, ne_eqb _ _ c.if-values-i-eq0.false)

pub returns-in-Skip : goal.returns-in-Skip
returns-in-Skip c = rw c.in-Skip.is
