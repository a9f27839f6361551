-- `copy` meets its contract. The invariant: the first i entries are copied. Assumes nothing.
use mathlib.Core.Path.{◌≡◌, refl, ap, ◌∙◌}
use mathlib.Core.List.{List}
use Prim.Native.Nat.{ℕ, ◌+◌}
use native.Mathlib.Omega.{arith}
use lib.ListN.{get_or, set}
use Rattle.statement_writer.proofs.Puts.{sets_more}
use Rattle.host_report.proofs.copy.Goals as goal

pub loop-i-init : goal.loop-i-init
loop-i-init c = (omega arith, refl)

pub loop-i-preserved : goal.loop-i-preserved
loop-i-preserved c =
    let z : 0 + c.loop-i.i ≡ c.loop-i.i = omega arith in
    let more = rw z at (sets_more c.args.from.now c.args.out.now 0 c.loop-i.i (omega arith)) in
    (omega arith, ap (λ (x : List ℕ). set x c.loop-i.i (get_or c.args.from.now c.loop-i.i 0)) c.loop-i.invariant.1 ∙ more)

pub returns : goal.returns
returns c =
    let e : c.loop-i.i ≡ c.args.n = omega arith in
    rw e at c.loop-i.invariant.1
