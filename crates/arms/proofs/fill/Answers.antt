-- `arms::fill` meets its contract. The statements before place s have their arms.
-- Assumes nothing.
use native.Mathlib.Omega.{arith}
use Rattle.arms.proofs.Filling.{filled-arms, entry-targets}
use Rattle.arms.proofs.fill.Goals as goal

pub of_statement-requires : goal.of_statement-requires
of_statement-requires c =
    (omega (arith, c.requires.count_in_bounds), rw c.statement_of-t.ensures (entry-targets _ c.requires.held c.requires.well_formed _ _ c.requires.count_in_bounds.1 c.loop-s-test.true))

pub returns-clause-arms_of : goal.returns-clause-arms_of
returns-clause-arms_of c = filled-arms _ c.requires.held _ _ _ _ _ c.loop-s-test.false c.loop-s.invariant
