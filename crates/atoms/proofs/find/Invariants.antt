use lib.ListN.{length}
use Rattle.program.specs.Reading.{statements}
use Rattle.atoms.proofs.Found.{FoundBelow}
use Rattle.atoms.proofs.find.Given as goal

abbrev pub invariant-loop-s : goal.invariant-loop-s
invariant-loop-s l = FoundBelow (statements l.p) l.s l.rows (length l.initial.codes) l.codes
