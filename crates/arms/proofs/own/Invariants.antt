use Rattle.bits.specs.Row.{member}
use Rattle.arms.proofs.Owned.{Owned}
use Rattle.arms.proofs.own.Given as goal

abbrev pub invariant-loop-s : goal.invariant-loop-s
invariant-loop-s l = Owned l.p.entries (member l.named) (member l.mine) l.s
