-- `keeps` meets its contract. Assumes nothing.
use Rattle.blame.proofs.keeps.Goals as goal

pub returns-in-Misspelled : goal.returns-in-Misspelled
returns-in-Misspelled c = rw c.in-Misspelled.is tt

pub returns-in-LineCount : goal.returns-in-LineCount
returns-in-LineCount c = rw c.in-LineCount.is tt

pub returns-in-Placement : goal.returns-in-Placement
returns-in-Placement c = rw c.in-Placement.is c.in_place.ensures

pub returns-in-Target : goal.returns-in-Target
returns-in-Target c = rw c.in-Target.is c.is_aimed.ensures
