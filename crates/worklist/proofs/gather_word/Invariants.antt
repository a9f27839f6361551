use mathlib.Core.Path.{◌≡◌}
use lib.ListN.{length, get_or}
use Rattle.worklist.proofs.Words.{lowest, Left, Upto}
use Rattle.worklist.proofs.gather_word.Given as goal

abbrev pub invariant-loop-left : goal.invariant-loop-left
invariant-loop-left l = (length l.stack ≡ length l.initial.stack) × Left (get_or l.set l.k 0) l.left × Upto l.set l.n l.k (lowest l.left) l.stack l.h

abbrev pub decreases-loop-left : goal.decreases-loop-left
decreases-loop-left l = l.left
