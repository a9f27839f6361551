-- `export` meets its contract: the answer of `judge`, told case by case. Assumes nothing.
use mathlib.Core.Path.{refl}
use Rattle.host_judge.proofs.export.Goals as goal

pub returns-in-Err : goal.returns-in-Err
returns-in-Err c =
    record { answer = c.judge.result; answers = c.judge.ensures; returned = rw c.in-Err.is (c.number.ensures, refl) }

pub returns-in-Ok : goal.returns-in-Ok
returns-in-Ok c =
    record { answer = c.judge.result; answers = c.judge.ensures; returned = rw c.in-Ok.is (refl, refl) }
