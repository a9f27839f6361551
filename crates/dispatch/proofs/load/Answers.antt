-- `load` meets its contract: a valid variable's number is the same by 64 and by 256. Assumes nothing.
use mathlib.Core.Path.{◌≡◌}
use Prim.Native.Nat.{◌%◌}
use native.Mathlib.Omega.{arith}
use borrow.Author.Tests.{ne_eqb}
use Rattle.dispatch.proofs.load.Goals as goal

pub returns-then-constant-eq1 : goal.returns-then-constant-eq1
returns-then-constant-eq1 c = rw c.if-constant-eq1.true

pub returns-else-constant-eq1 : goal.returns-else-constant-eq1
returns-else-constant-eq1 c =
    let v = rw (ne_eqb c.args.constant 1 c.if-constant-eq1.false) at c.requires in
    let same : c.args.w % 64 ≡ c.args.w % 256 = omega (arith, v) in
    rw (ne_eqb c.args.constant 1 c.if-constant-eq1.false, ← same)
