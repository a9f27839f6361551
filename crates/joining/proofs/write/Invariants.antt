use Prim.Native.Nat.{◌-◌, ◌≤◌}
use Rattle.program.specs.Reading.{statements}
use Rattle.joining.specs.Joining.{joined}
use Rattle.joining.proofs.Written.{Written, Behind}
use Rattle.joining.proofs.write.Given as goal

abbrev pub invariant-loop-s : goal.invariant-loop-s
invariant-loop-s l = Written (joined (statements l.road) (statements l.creeper)) l.initial.out l.out l.at l.s

abbrev pub invariant-loop-k : goal.invariant-loop-k
invariant-loop-k l = Behind l.creeper.entries l.size l.last l.initial.out l.initial.at l.out l.at l.k
