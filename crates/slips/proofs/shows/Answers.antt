-- `shows` meets its contract. Assumes nothing.
use Rattle.slips.proofs.shows.Goals as goal

pub returns-in-Return : goal.returns-in-Return
returns-in-Return c = rw c.in-Return.is

pub returns-in-Tab : goal.returns-in-Tab
returns-in-Tab c = rw c.in-Tab.is

pub returns-in-Space : goal.returns-in-Space
returns-in-Space c = rw c.in-Space.is

pub returns-in-Bracket : goal.returns-in-Bracket
returns-in-Bracket c = rw c.in-Bracket.is
