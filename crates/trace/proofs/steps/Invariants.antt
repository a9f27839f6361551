use Prim.Native.Nat.{◌<◌}
use mathlib.Core.Path.{◌≡◌}
use Rattle.trace.proofs.Walk.{Going}
use Rattle.trace.proofs.steps.Given as goal

abbrev pub invariant-loop-k : goal.invariant-loop-k
invariant-loop-k l =
    Going l.p l.input l.budget l.done l.at l.initial.values l.initial.out l.out l.values l.place l.k l.to
    × (l.budget < l.done → l.k ≡ l.done)
