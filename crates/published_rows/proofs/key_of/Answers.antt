-- `published_rows::key_of` meets its contract: mark by mark. Assumes nothing.
use mathlib.Core.Path.{refl}
use Rattle.published_rows.proofs.key_of.Goals as goal

pub returns-in-Rm : goal.returns-in-Rm
returns-in-Rm c = rw c.in-Rm.is refl

pub returns-in-Rpl : goal.returns-in-Rpl
returns-in-Rpl c = rw c.in-Rpl.is refl

pub returns-in-Cse : goal.returns-in-Cse
returns-in-Cse c = rw c.in-Cse.is refl
