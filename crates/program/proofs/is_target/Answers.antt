-- `is_target` meets its contract. Assumes nothing.
use native.Mathlib.Omega.{arith}
use Rattle.program.proofs.Decides.{decides-target}
use Rattle.program.proofs.is_target.Goals as goal

pub returns-then-t-lt2 : goal.returns-then-t-lt2
returns-then-t-lt2 c = λ i. omega arith

pub returns : goal.returns
returns c = decides-target c.args.t c.args.n c.if-t-lt2.false
