-- `outcome` meets its contract: a wrong start is refused, else the run is told. Assumes nothing.
use native.Mathlib.Omega.{arith}
use Rattle.outcome.proofs.Outputs.{run-output, start-output}
use Rattle.outcome.proofs.outcome.Goals as goal

pub returns-in-Ok : goal.returns-in-Ok
returns-in-Ok c = run-output _ _ _ _ c.in-Ok.ensures c.run_outcome.result c.run_outcome.ensures

pub returns-in-Err : goal.returns-in-Err
returns-in-Err c = start-output _ _ _ _ c.in-Err.wrong c.in-Err.ensures c.write.ensures.0 (omega (arith, c.write.ensures.1))
