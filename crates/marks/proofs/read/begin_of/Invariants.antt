use mathlib.Core.List.{List}
use Rattle.marks.specs.declared.Mark.{Mark}
use Rattle.marks.specs.Reading.{Taken}
use Rattle.marks.proofs.Walk.{Begins}
use Rattle.marks.proofs.read.begin_of.Given as goal

abbrev pub invariant-loop-i : goal.invariant-loop-i
invariant-loop-i l = (ms : List Mark) → Taken l.s ms → Begins l.s ms l.i l.at
