-- `load` meets its contract: a valid variable lies in the array.
use Rattle.machine.proofs.load.Goals as goal

pub bounds-values-i : goal.bounds-values-i
bounds-values-i c = rw c.in-Variable.is at c.requires

pub returns-in-Variable : goal.returns-in-Variable
returns-in-Variable c = rw c.in-Variable.is
