-- `check` meets its contract. The invariant: the text up to the position is the lines of the marks read so far. Assumes nothing.
use Rattle.lines.proofs.Reading.{none_yet, one_more, no_lines, whole}
use Rattle.marks.specs.Marks.{spell_mark, ValidMark}
use Rattle.marks.proofs.Spelling.{marks-unambiguous}
use Rattle.marks.proofs.Walk.{no_line, line_of, line-further, lined}
use native.Mathlib.Omega.{arith}
use Rattle.marks.proofs.read.check.Goals as goal

pub loop-at-init : goal.loop-at-init
loop-at-init c = none_yet spell_mark ValidMark c.args.s.now

pub returns-in_default : goal.returns-in_default
returns-in_default c =
    no_lines c.loop-at.invariant marks-unambiguous (no_line _ c.loop-at.at c.in_default.is c.line.ensures) c.loop-at-test.true

pub overflow_add-count : goal.overflow_add-count
overflow_add-count c = omega (arith, c.loop-at.invariant.paid)

pub loop-at-smaller : goal.loop-at-smaller
loop-at-smaller c = line-further _ c.loop-at.at c.in-Some.is c.line.ensures

pub loop-at-preserved : goal.loop-at-preserved
loop-at-preserved c = one_more c.loop-at.invariant (line_of _ c.loop-at.at c.in-Some.is c.line.ensures)

pub returns-then-count-gt-MOST : goal.returns-then-count-gt-MOST
returns-then-count-gt-MOST c = (c.loop-at.invariant.read, whole c.loop-at.invariant c.loop-at-test.false, omega (arith, c.loop-at.invariant.counted))

pub returns : goal.returns
returns c =
    let s = whole c.loop-at.invariant c.loop-at-test.false in
    (c.loop-at.invariant.read, record { spells = s; few = omega (arith, c.loop-at.invariant.counted) }, c.loop-at.invariant.counted, lined s)
