-- `report` meets its contract: a refusal of `judge` is handed on, and where it finished both texts are taken. Assumes nothing.
use mathlib.Core.Path.{sym}
use native.Mathlib.Omega.{arith}
use lib.Seq.{length-take-le}
use Rattle.judge.specs.Judge.{Lent, JudgeFinished}
use Rattle.pricing.proofs.InForce.{in-force-fair}
use Rattle.priced.proofs.Reports.{refused-report, new-within, both-taken, report-listed}
use Rattle.std.proofs.lemmas.Result.{err_from_is_err_and}
use Rattle.priced.proofs.report.Goals as goal
use Rattle.priced.proofs.report.Goals.{In_ok-judged}

-- what was lent to `judge`, and what it left
abbrev lent : In_ok-judged → Lent
lent c = record { verdicts = c.verdict_buffer-verdicts.result; new = c.text_buffer-text.result }

abbrev left : In_ok-judged → Lent
left c = record { verdicts = c.judge.new.verdicts; new = c.judge.new.text }

-- the answer is a result
finished : (c : In_ok-judged) → JudgeFinished c.args.program.now c.args.marks.now (lent c) (left c) c.in_ok-judged.judged.marks c.in_ok-judged.judged.accepted c.in_ok-judged.judged.bytes
finished c = c.in_ok-judged.ensures

pub slice_bounds-text-end : goal.slice_bounds-text-end
slice_bounds-text-end c = new-within (finished (goal.at.slice_bounds-text-end c).In_ok-judged)

pub slice_bounds-list-end : goal.slice_bounds-list-end
slice_bounds-list-end c = sym (length-take-le _ _ (new-within (finished (goal.at.slice_bounds-list-end c).In_ok-judged)))

pub list-requires : goal.list-requires
list-requires c = record { both = both-taken (finished (goal.at.list-requires c).In_ok-judged); fair = rw c.in_force-table.ensures (in-force-fair _) }

pub returns-in_err-judged : goal.returns-in_err-judged
returns-in_err-judged c =
    let q = err_from_is_err_and c.from_residual.result c.from_residual.ensures.1 in
    rw (q.1, q.2) (refused-report c.verdict_buffer-verdicts.result c.text_buffer-text.result (omega arith, omega arith) c.in_err-judged.ensures.0)

pub returns : goal.returns
returns c = report-listed (finished (goal.at.returns c).In_ok-judged) (rw c.in_force-table.ensures at c.list.ensures)
