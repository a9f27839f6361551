-- The lent bytes are as many as at first. The measure: the pieces that are left.
use Rattle.std.proofs.Common.{◌≡◌, length}
use Rattle.files.specs.Files.{chunk_room}
use Rattle.transcript.specs.Transcript.{left}
use Rattle.run_program.proofs.print.Given as goal

abbrev pub invariant-loop-out : goal.invariant-loop-out
invariant-loop-out l = length l.out ≡ chunk_room

abbrev pub decreases-loop-out : goal.decreases-loop-out
decreases-loop-out l = left l.at
