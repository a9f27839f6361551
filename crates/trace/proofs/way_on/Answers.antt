use mathlib.Core.Path.{ap}
use Rattle.machine.specs.Answer.{state_of}
use Rattle.machine.specs.Machine.{written, faulted}
use Rattle.language.specs.Kept.{kept_of}
use Rattle.machine.specs.declared.Next.{Next}
use Rattle.trace.proofs.way_on.Goals as goal

pub returns-in-Finish : goal.returns-in-Finish
returns-in-Finish c = λ us. (written c.in-Finish.field-0 (kept_of us), ap (λ (x : Next). state_of x us) c.in-Finish.is)

pub returns-in-Fault : goal.returns-in-Fault
returns-in-Fault c = λ us. (faulted c.in-Fault.field-0, ap (λ (x : Next). state_of x us) c.in-Fault.is)
