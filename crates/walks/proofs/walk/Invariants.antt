use Rattle.walks.proofs.Steps.{Walking}
use Rattle.forcing.specs.Numbers.{number_of}
use Rattle.graph.specs.Lists.{step}
use lib.ListN.{length}
use mathlib.Core.Path.{◌≡◌}
use Rattle.walks.proofs.walk.Given as goal

abbrev pub invariant-loop-place : goal.invariant-loop-place
invariant-loop-place l = (length l.path ≡ length l.initial.path) × Walking (length l.steps.head.now) (step l.steps.head.now l.steps.link.now l.steps.to.now) l.numbers l.s l.at l.initial.path l.path l.k l.place

abbrev pub decreases-loop-place : goal.decreases-loop-place
decreases-loop-place l = number_of l.numbers l.place
