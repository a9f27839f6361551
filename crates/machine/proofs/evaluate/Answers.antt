-- `evaluate` meets its contract: each arm is its clause of `value`.
use mathlib.Core.Path.{ap}
use Rattle.std.specs.Prelude.{Some}
use Rattle.machine.proofs.evaluate.Goals as goal

pub load-requires : goal.load-requires
load-requires c = rw c.in-Single.is at c.requires

pub load-x-requires : goal.load-x-requires
load-x-requires c = (rw c.in-Binary.is at c.requires).0

pub load-y-requires : goal.load-y-requires
load-y-requires c = (rw c.in-Binary.is at c.requires).1

pub returns-in-Single : goal.returns-in-Single
returns-in-Single c = rw c.in-Single.is (ap Some c.load.ensures)

pub returns-in-Binary : goal.returns-in-Binary
returns-in-Binary c =
    rw c.in-Binary.is (rw (← c.load-x.ensures, ← c.load-y.ensures) c.apply_operator.ensures)
