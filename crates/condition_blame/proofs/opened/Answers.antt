-- `opened` meets its contract: every bound is small. Assumes nothing.
use mathlib.Core.Path.{refl}
use native.Mathlib.Omega.{arith}
use Rattle.condition_blame.proofs.Search.{bound-small}
use Rattle.condition_blame.proofs.opened.Goals as goal

pub returns-then-is_nonzero-clause-top_value : goal.returns-then-is_nonzero-clause-top_value
returns-then-is_nonzero-clause-top_value c = (refl, omega (arith, c.bound_of.ensures, bound-small c.args.i), omega arith)
