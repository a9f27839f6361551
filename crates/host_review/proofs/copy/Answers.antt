-- `copy` meets its contract. The invariant: the first i entries are copied. Assumes nothing.
use Rattle.host_review.proofs.Copies.{begun_more}
use lib.ListN.{get_or, set}
use native.Mathlib.Omega.{arith}
use Prim.Native.Nat.{ℕ}
use mathlib.Core.List.{List}
use mathlib.Core.Path.{◌≡◌, refl, ap, ◌∙◌}
use Rattle.host_review.proofs.copy.Goals as goal

pub loop-i-init : goal.loop-i-init
loop-i-init c = (omega arith, refl)

pub loop-i-preserved : goal.loop-i-preserved
loop-i-preserved c =
    (omega arith, ap (λ (x : List ℕ). set x c.loop-i.i (get_or c.args.from.now c.loop-i.i 0)) c.loop-i.invariant.1 ∙ begun_more c.args.from.now c.args.out.now c.loop-i.i (omega arith))

pub returns : goal.returns
returns c =
    let e : c.loop-i.i ≡ c.args.n = omega arith in
    rw e at c.loop-i.invariant.1
