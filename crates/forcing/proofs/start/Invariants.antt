use Rattle.bits.specs.Row.{member}
use Rattle.forcing.specs.Search.{Started}
use Rattle.forcing.proofs.start.Given as goal

abbrev pub invariant-loop-s : goal.invariant-loop-s
invariant-loop-s l = Started (member l.goal) l.s l.numbers l.queue l.h
