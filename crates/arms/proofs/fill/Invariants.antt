use Rattle.bits.specs.Row.{member}
use Rattle.arms.proofs.Filling.{Filled}
use Rattle.arms.proofs.fill.Given as goal

abbrev pub invariant-loop-s : goal.invariant-loop-s
invariant-loop-s l = Filled l.p.entries (member l.mine) l.numbers l.initial.arms l.arms l.s
