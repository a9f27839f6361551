use Rattle.base.proofs.Decides.{decides_eqb}
use Rattle.verdicts.proofs.is_reuse.Goals as goal

pub returns-in-Rm : goal.returns-in-Rm
returns-in-Rm c = rw c.in-Rm.is (λ h. h)

pub returns-in-Rpl : goal.returns-in-Rpl
returns-in-Rpl c = rw c.in-Rpl.is (λ h. h)

pub returns-in-Cse : goal.returns-in-Cse
returns-in-Cse c = rw c.in-Cse.is (decides_eqb c.args.b 0)
