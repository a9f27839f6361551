-- The text up to the position is the lines of the valid statements read so far, of which the first `most` are kept.
use mathlib.Core.Path.{refl}
use native.Mathlib.Omega.{arith}
use Rattle.lines.proofs.Walk.{line-further}
use Rattle.lines.proofs.Reading as reading
use Rattle.language.specs.Spelling.{spell, Valid}
use Rattle.program.proofs.Texts.{statements-unambiguous, no-statement, no_end, line_of, kept_more, kept_same}
use Rattle.program.proofs.read_lines.Goals as goal
use Rattle.program.proofs.read_lines.Goals.{then-count-lt-MOST, else-count-lt-MOST}

pub loop-at-init : goal.loop-at-init
unfolding reading.none_yet
loop-at-init c = record { lines = reading.none_yet spell Valid _; kept = refl; room = c.requires }

pub returns-in_err-e : goal.returns-in_err-e
returns-in_err-e c = rw c.from_residual.ensures (reading.no_lines c.loop-at.invariant.lines statements-unambiguous (no-statement _ c.loop-at.at c.in_err-e.ensures.result_value) c.loop-at-test.true)

pub returns-in_err-next : goal.returns-in_err-next
returns-in_err-next c =
    rw c.from_residual-in_err-next.ensures (reading.no_lines c.loop-at.invariant.lines statements-unambiguous (no_end _ c.loop-at.at c.in_ok-e.end c.in_ok-e.ensures.result_value c.in_err-next.ensures.result_value) c.loop-at-test.true)

pub overflow_add-count : goal.overflow_add-count
overflow_add-count c = omega (arith, c.loop-at.invariant.lines.paid)

pub loop-at-smaller : goal.loop-at-smaller
loop-at-smaller c = line-further (line_of _ c.loop-at.at c.in_ok-e.end c.in_ok-e.ensures.result_value c.in_ok-next.next c.in_ok-next.ensures.result_value (c.in_ok-next.ensures.result_in_bounds (omega arith)))

pub loop-at-preserved : goal.loop-at-preserved
unfolding reading.one_more
loop-at-preserved c =
    record {
      lines = reading.one_more c.loop-at.invariant.lines (line_of _ c.loop-at.at c.in_ok-e.end c.in_ok-e.ensures.result_value c.in_ok-next.next c.in_ok-next.ensures.result_value (c.in_ok-next.ensures.result_in_bounds (omega arith)));
      kept =
          elim c.if-count-lt-MOST.branch [
            | then-count-lt-MOST w ↦ rw w.entries-is (kept_more c.loop-at.entries c.loop-at.count c.loop-at.invariant.lines.read c.in_ok-e.e c.loop-at.invariant.room c.loop-at.invariant.lines.counted c.loop-at.invariant.kept w.if-count-lt-MOST.true _ w.entry_of.ensures)
            | else-count-lt-MOST w ↦ rw w.entries-is (kept_same c.loop-at.entries c.loop-at.count c.loop-at.invariant.lines.read c.in_ok-e.e c.loop-at.invariant.room c.loop-at.invariant.lines.counted c.loop-at.invariant.kept w.if-count-lt-MOST.false)
          ];
      room = c.if-count-lt-MOST.array_long;
    }

pub returns : goal.returns
returns c =
    record { P = c.loop-at.invariant.lines.read; spells = reading.whole c.loop-at.invariant.lines c.loop-at-test.false; counted = c.loop-at.invariant.lines.counted; kept = c.loop-at.invariant.kept; room = c.loop-at.invariant.room }
