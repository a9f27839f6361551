-- `operate` meets its contract: what the operator gives is stored, or the run faults. Assumes nothing.
use Rattle.dispatch.proofs.operate.Goals as goal

pub left-a-requires : goal.left-a-requires
left-a-requires c = c.requires.2

pub right-b-requires : goal.right-b-requires
right-b-requires c = c.requires.3

pub returns-in-Some : goal.returns-in-Some
returns-in-Some c =
    rw (← c.left-a.ensures, ← c.right-b.ensures, ← c.apply_operator-given.ensures, c.in-Some.is)

pub returns-in-None : goal.returns-in-None
returns-in-None c =
    rw (← c.left-a.ensures, ← c.right-b.ensures, ← c.apply_operator-given.ensures, c.in-None.is)

pub bounds-values-x : goal.bounds-values-x
bounds-values-x c = c.requires.0
