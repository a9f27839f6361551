use mathlib.Core.Path.{◌≡◌}
use lib.ListN.{length}
use Rattle.program.specs.Program.{at, row_words}
use Rattle.program.specs.Reading.{statements}
use Rattle.bits.specs.Row.{member}
use Rattle.labelling.specs.Labels.{Labelled}
use Rattle.listing.proofs.changed.Given as goal

abbrev pub invariant-loop-s : goal.invariant-loop-s
invariant-loop-s l = (length l.row ≡ row_words) × Labelled l.s (member l.row) (λ t. at (statements l.q) t ≡ at (statements l.p) t → ⊥)
