use mathlib.Core.Path.{refl}
use Rattle.std.specs.Prelude.{Ok, Err}
use Rattle.host_prices.proofs.export.Goals as goal

pub returns-in-Ok : goal.returns-in-Ok
returns-in-Ok c = record { answer = Ok c.in-Ok.table; answers = c.in-Ok.ensures; returned = (refl, refl) }

pub returns-in-Err : goal.returns-in-Err
returns-in-Err c = record { answer = Err c.in-Err.refusal; answers = c.in-Err.ensures; returned = (c.number.ensures, refl) }
