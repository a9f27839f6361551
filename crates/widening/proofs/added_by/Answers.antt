use Rattle.widening.proofs.Uses.{rm-adds, rpl-adds}
use Rattle.widening.proofs.added_by.Goals as goal

pub returns-in-Rm : goal.returns-in-Rm
returns-in-Rm c = rm-adds _ _ _ _ _ c.in-Rm.is

pub returns-in-Rpl : goal.returns-in-Rpl
returns-in-Rpl c = rpl-adds _ _ _ _ _ c.in-Rpl.is
