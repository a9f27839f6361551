-- The measure is the length of the unread text.
use Prim.Native.Nat.{◌+◌, ◌-◌, ◌*◌}
use lib.ListN.{length}
use Rattle.condition_reader.proofs.+binary_bracketed_condition_unary.Given as goal

abbrev pub decreases-binary : goal.decreases-binary
decreases-binary l = 3 * (length l.s.now - l.at)

abbrev pub decreases-bracketed : goal.decreases-bracketed
decreases-bracketed l = 3 * (length l.s.now - l.at) + 1

abbrev pub decreases-condition : goal.decreases-condition
decreases-condition l = 3 * (length l.s.now - l.at) + 2

abbrev pub decreases-unary : goal.decreases-unary
decreases-unary l = 3 * (length l.s.now - l.at)
