use Prim.Native.Nat.{◌*◌}
use Rattle.bits.specs.Row.{member}
use Rattle.worklist.specs.Worklist.{Gathered, lesser}
use Rattle.worklist.proofs.gather.Given as goal

abbrev pub invariant-loop-k : goal.invariant-loop-k
invariant-loop-k l = Gathered (member l.set) (lesser l.n (l.k * 64)) l.stack l.h
