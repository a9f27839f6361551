-- `report` meets its contract: each answer of `judge` is printed. Assumes nothing.
use Rattle.report.proofs.Reports.{answer-refused, answer-finished, refused-room, refused-printed, report-fits, made_list, list-ready, prices-room, finished-printed}
use Rattle.priced.proofs.Reports.{new-within, both-taken}
use Rattle.pricing.proofs.Fair.{ours-fair}
use Rattle.report.specs.Report.{Refuses}
use Rattle.judge.specs.Judge.{JudgeFinished}
use lib.Seq.{length-take-le}
use native.Mathlib.Omega.{arith}
use mathlib.Core.Path.{sym}
use Rattle.report.proofs.report.Goals as goal
use Rattle.report.proofs.report.Goals.{In-Ok, After-number-n}

-- the answer is a refusal
refuses : (c : After-number-n) → Refuses c.args.given.now c.args.marks.now c.number-n.result
refuses c =
    answer-refused c.args.given.now c.args.marks.now
    (record { verdicts = c.verdict_buffer-verdicts.result; new = c.text_buffer-text.result })
    (record { verdicts = c.judge-answer.new.verdicts; new = c.judge-answer.new.text })
    c.judge-answer.ensures c.in-Err.is c.number-n.ensures (omega arith, omega arith)

-- the answer is a result
finished : (c : In-Ok)
    → JudgeFinished c.args.given.now c.args.marks.now
    (record { verdicts = c.verdict_buffer-verdicts.result; new = c.text_buffer-text.result })
    (record { verdicts = c.judge-answer.new.verdicts; new = c.judge-answer.new.text })
    c.in-Ok.judged.marks c.in-Ok.judged.accepted c.in-Ok.judged.bytes
finished c =
    answer-finished c.args.given.now c.args.marks.now
    (record { verdicts = c.verdict_buffer-verdicts.result; new = c.text_buffer-text.result })
    (record { verdicts = c.judge-answer.new.verdicts; new = c.judge-answer.new.text })
    c.judge-answer.ensures c.in-Ok.is

pub write_refused-requires : goal.write_refused-requires
write_refused-requires c = omega (arith, refused-room (refuses (goal.at.write_refused-requires c).After-number-n))

pub slice_bounds-text-end : goal.slice_bounds-text-end
slice_bounds-text-end c = new-within (finished (goal.at.slice_bounds-text-end c).In-Ok)

pub slice_bounds-write_report-end-in-Ok : goal.slice_bounds-write_report-end-in-Ok
slice_bounds-write_report-end-in-Ok c = sym (length-take-le _ _ (new-within (finished (goal.at.slice_bounds-write_report-end-in-Ok c).In-Ok)))

pub write_report-k-requires : goal.write_report-k-requires
write_report-k-requires c = report-fits (finished (goal.at.write_report-k-requires c).In-Ok) _ (omega arith)

pub slice_bounds-text-end-in-Ok : goal.slice_bounds-text-end-in-Ok
slice_bounds-text-end-in-Ok c = new-within (finished (goal.at.slice_bounds-text-end-in-Ok c).In-Ok)

pub slice_bounds-list-end : goal.slice_bounds-list-end
slice_bounds-list-end c = sym (length-take-le _ _ (new-within (finished (goal.at.slice_bounds-list-end c).In-Ok)))

pub list-list-requires : goal.list-list-requires
list-list-requires c = record { both = both-taken (finished (goal.at.list-list-requires c).In-Ok); fair = rw c.ours-table.ensures ours-fair }

pub write-requires : goal.write-requires
write-requires c =
    let f = finished (goal.at.write-requires c).In-Ok in
    let ready = list-ready f (made_list f (rw c.ours-table.ensures at c.list-list.ensures)) in
    (ready.0, prices-room f c.if-out-lt-REPORT_ROOM.false c.write_report-k.ensures, ready.1, ready.2)

pub returns-in-Err : goal.returns-in-Err
returns-in-Err c =
    refused-printed (refuses (goal.at.returns-in-Err c).After-number-n) c.if-out-lt-REPORT_ROOM.false c.write_refused.ensures

pub returns-in-Ok : goal.returns-in-Ok
returns-in-Ok c =
    let f = finished (goal.at.returns-in-Ok c).In-Ok in
    let listed = made_list f (rw c.ours-table.ensures at c.list-list.ensures) in
    finished-printed f c.if-out-lt-REPORT_ROOM.false c.write_report-k.ensures listed c.write.ensures.0 c.write.ensures.1
