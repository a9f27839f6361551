use Rattle.side_by_side.specs.SideBySide.{ahead}
use Rattle.compare_runs.proofs.Pieces.{Printing}
use Rattle.compare_runs.proofs.print.Given as goal

abbrev pub invariant-loop-new : goal.invariant-loop-new
invariant-loop-new l = Printing l.program l.marks l.start l.from l.new l.out

abbrev pub decreases-loop-new : goal.decreases-loop-new
decreases-loop-new l = ahead l.from
