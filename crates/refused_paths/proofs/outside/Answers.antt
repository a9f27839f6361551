-- `outside` meets its contract: the places below n less those of the row. Assumes nothing.
use Rattle.bits.specs.Row.{member}
use mathlib.Core.Bool.{Bool, not, ◌&&◌}
use mathlib.Core.Path.{ap, ◌∙◌}
use Rattle.refused_paths.proofs.outside.Goals as goal

pub returns : goal.returns
returns c = λ t. c.difference.ensures t ∙ ap (λ (b : Bool). b && not (member c.args.row.now t)) (c.below.ensures t)
