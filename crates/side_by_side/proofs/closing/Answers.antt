-- `closing` meets its contract: the marks are judged anew, and what is known of both texts is demand 3. Assumes nothing.
use mathlib.Core.Path.{sym}
use native.Mathlib.Omega.{arith}
use lib.Seq.{length-take-le}
use Rattle.pricing.specs.Prices.{ours}
use Rattle.priced.proofs.Reports.{new-within}
use Rattle.side_by_side.proofs.Closings.{closes, trace-alike, never-over, never-refused}
use Rattle.side_by_side.proofs.closing.Goals as goal

pub returns-then-budget-gt-MOST_STEPS : goal.returns-then-budget-gt-MOST_STEPS
returns-then-budget-gt-MOST_STEPS c = λ u start. never-over _ _ u _ c.requires.stage_value start _ _ c.stay.ensures c.if-budget-gt-MOST_STEPS.true

pub slice_bounds-write-end : goal.slice_bounds-write-end
slice_bounds-write-end c = new-within (rw c.in-Ok.is at c.judge-answer.ensures)

pub slice_bounds-write-end-in-Ok : goal.slice_bounds-write-end-in-Ok
slice_bounds-write-end-in-Ok c = sym (length-take-le _ _ (new-within (rw c.in-Ok.is at c.judge-answer.ensures)))

pub write-n-requires : goal.write-n-requires
write-n-requires c =
    let f = rw c.in-Ok.is at c.judge-answer.ensures in
    record { closing_room_in_bounds = omega (arith, c.requires.side_by_side_room_in_bounds); run_alike = f.demand.alike ours _ c.requires.values_len _ _ c.if-budget-gt-MOST_STEPS.false; trace_alike = trace-alike f.demand _ c.requires.values_len _ }

pub returns-in-Err : goal.returns-in-Err
returns-in-Err c = λ u start.
    let f = rw c.in-Err.is at c.judge-answer.ensures in
    never-refused _ _ u _ c.requires.stage_value start _ c.stay-in-Err.ensures
    (omega (arith, c.verdict_buffer-verdicts.ensures), c.requires.text_bytes_in_bounds) f.0 f.1

pub returns-in-Ok : goal.returns-in-Ok
returns-in-Ok c = λ u start.
    let f = rw c.in-Ok.is at c.judge-answer.ensures in
    closes _ _ u _ c.requires.stage_value start c.told.ensures f c.write-n.ensures
