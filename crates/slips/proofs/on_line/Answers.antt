-- `on_line` meets its contract. Assumes nothing.
use mathlib.Core.Path.{ap, ◌∙◌}
use Rattle.slips.specs.Slips.{line_slip}
use Rattle.slips.proofs.on_line.Goals as goal

pub returns : goal.returns
returns c = c.in_line.ensures ∙ ap line_slip c.line_of.ensures
