-- `line_of` meets its contract. The invariant: n lines end at the position. Assumes nothing.
use mathlib.Core.Path.{refl}
use Rattle.lines.proofs.Reading.{none_yet, one_more, whole}
use Rattle.line_number.proofs.First.{first-misspelled}
use Rattle.marks.specs.Marks.{spell_mark, ValidMark}
use Rattle.marks.proofs.Walk.{no_line, line_of}
use Rattle.mark_blame.specs.Blame.{misspelled, none}
use Rattle.mark_blame.proofs.line_of.Goals as goal

pub loop-at-init : goal.loop-at-init
loop-at-init c = none_yet spell_mark ValidMark _

pub returns-in_default : goal.returns-in_default
returns-in_default c =
    misspelled (first-misspelled c.loop-at.invariant (no_line _ c.loop-at.at c.in_default.is c.line.ensures) c.loop-at-test.true c.line_at.ensures)

pub loop-at-preserved : goal.loop-at-preserved
loop-at-preserved c = one_more c.loop-at.invariant (line_of _ c.loop-at.at c.in-Some.is c.line.ensures)

pub returns : goal.returns
returns c = none c.loop-at.invariant.read (whole c.loop-at.invariant c.loop-at-test.false) refl
