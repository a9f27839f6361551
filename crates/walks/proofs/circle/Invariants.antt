use Rattle.walks.proofs.Steps.{Circling}
use Rattle.graph.specs.Graphs.{places}
use Rattle.graph.specs.Lists.{step}
use Rattle.bits.specs.Row.{member}
use lib.ListN.{length}
use Prim.Native.Nat.{◌-◌}
use mathlib.Core.Path.{◌≡◌}
use Rattle.walks.proofs.circle.Given as goal

abbrev pub invariant-loop-seen : goal.invariant-loop-seen
invariant-loop-seen l = (length l.path ≡ length l.initial.path) × (length l.seen ≡ places) × Circling (length l.steps.head.now) (step l.steps.head.now l.steps.link.now l.steps.to.now) (member l.avoid) l.s l.initial.path l.path l.seen l.k l.place

abbrev pub decreases-loop-seen : goal.decreases-loop-seen
decreases-loop-seen l = length l.steps.head.now - l.k
