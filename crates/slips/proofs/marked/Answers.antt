-- `marked` meets its contract. Assumes nothing.
use Rattle.slips.proofs.Steps.{marked-short, marked-long}
use mathlib.Core.Path.{sym}
use Rattle.slips.proofs.marked.Goals as goal

pub returns-then-text-lt3 : goal.returns-then-text-lt3
returns-then-text-lt3 c = sym (marked-short _ c.if-text-lt3.true)

pub returns : goal.returns
returns c = sym (marked-long _ c.if-text-lt3.false)
