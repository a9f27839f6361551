-- `host_why::export` meets its contract: the answer of `why`, told case by case. Assumes nothing.
use mathlib.Core.Path.{refl, ap}
use Rattle.host_why.proofs.export.Goals as goal

pub returns-in-Err : goal.returns-in-Err
returns-in-Err c = record { answer = c.why.result; answers = c.why.ensures; returned = rw c.in-Err.is (c.number.ensures, refl) }

pub returns-in-Ok : goal.returns-in-Ok
returns-in-Ok c = record { answer = c.why.result; answers = c.why.ensures; returned = rw c.in-Ok.is (refl, ap (λ verdict. record { verdict = verdict; length = c.in-Ok.because.length; culprit = c.in-Ok.because.culprit }) c.from.ensures) }
