use Rattle.atoms.specs.Facts.{noted_kept, Marked}
use Rattle.atoms.proofs.note_kept.Given as goal

abbrev pub invariant-loop-k : goal.invariant-loop-k
invariant-loop-k l = Marked l.initial.rows l.rows (noted_kept l.k) l.s
