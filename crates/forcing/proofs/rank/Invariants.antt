use mathlib.Core.Path.{◌≡◌}
use Prim.Native.Nat.{◌-◌}
use lib.ListN.{length}
use Rattle.bits.specs.Row.{member}
use Rattle.forcing.proofs.Steps.{Going}
use Rattle.forcing.proofs.rank.Given as goal

abbrev pub invariant-loop-at : goal.invariant-loop-at
invariant-loop-at l =
    (length l.set ≡ length l.initial.set) × (length l.rest ≡ length l.initial.rest) × (length l.numbers ≡ length l.initial.numbers) × (length l.queue ≡ length l.initial.queue) × Going l.steps.head.now l.steps.link.now l.steps.to.now (member l.mine) (member l.goal) (member l.set) l.rest l.numbers l.queue l.at l.hi

abbrev pub decreases-loop-at : goal.decreases-loop-at
decreases-loop-at l = length l.steps.head.now - l.at
