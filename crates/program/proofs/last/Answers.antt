-- `last` meets its contract. Assumes nothing.
use Prim.Native.Nat.{◌+◌}
use native.Mathlib.Omega.{arith}
use Rattle.base.proofs.Decides.{decides_eqb}
use Rattle.program.proofs.last.Goals as goal

pub returns-then-n-s : goal.returns-then-n-s
returns-then-n-s c = λ e. omega arith

pub returns : goal.returns
returns c = decides_eqb (c.args.s + 1) c.args.n
