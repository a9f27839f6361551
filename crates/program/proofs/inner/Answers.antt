-- `inner` meets its contract. Assumes nothing.
use native.Mathlib.Omega.{arith}
use Rattle.program.proofs.Decides.{decides-inner}
use Rattle.program.proofs.inner.Goals as goal

pub returns-then-n-s : goal.returns-then-n-s
returns-then-n-s c = λ i. omega arith

pub returns-then-s-eq0 : goal.returns-then-s-eq0
returns-then-s-eq0 c = λ i. omega arith

pub returns : goal.returns
returns c = decides-inner c.args.s c.args.n c.if-s-eq0.false
