-- A text's first line ends at its first byte 10, or where the text does. Assumes nothing.
use Rattle.condition_blame.proofs.Search.{line-taken}
use Rattle.condition_blame.proofs.first_line.Goals as goal

pub returns : goal.returns
returns c = rw c.unwrap_or-end.ensures (line-taken c.args.text.now c.line_end.result c.line_end.ensures)
