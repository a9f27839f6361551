-- `count_lines` meets its contract. The invariant: n lines end at the position. Assumes nothing.
use Rattle.lines.proofs.Reading.{none_yet, one_more}
use Rattle.line_number.proofs.First.{first-misspelled}
use Rattle.language.specs.Spelling.{spell, Valid}
use Rattle.blame.proofs.Blames.{line_of, no_line}
use Rattle.blame.proofs.count_lines.Goals as goal

pub loop-at-init : goal.loop-at-init
loop-at-init c = none_yet spell Valid _

pub returns-in_default : goal.returns-in_default
returns-in_default c =
    first-misspelled c.loop-at.invariant (no_line _ c.loop-at.at c.in_default.is c.line.ensures) c.loop-at-test.true c.line_at.ensures

pub loop-at-preserved : goal.loop-at-preserved
loop-at-preserved c = one_more c.loop-at.invariant (line_of c.in-Some.is c.line.ensures)
