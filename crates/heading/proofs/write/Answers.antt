-- `write` meets its contract: a budget too large, a refusal of `judge`, or its counts. Assumes nothing.
use mathlib.Core.Path.{refl}
use mathlib.Core.Logic.{inl, inr}
use Prim.Native.Nat.{◌<◌, ◌^◌}
use native.Mathlib.Omega.{arith}
use Rattle.run.specs.Run.{budget_number}
use Rattle.refusal_line.proofs.Blames.{blamed}
use Rattle.desk.proofs.Rooms.{refusal-most}
use Rattle.heading.proofs.Headings.{heading-most, budget-refused, head-refused, head-judged}
use borrow.Author.Rules.{rules}
use Rattle.heading.proofs.write.Goals as goal

pub returns-then-out-lt-HEADING_ROOM : goal.returns-then-out-lt-HEADING_ROOM
returns-then-out-lt-HEADING_ROOM c = (inl c.if-out-lt-HEADING_ROOM.true, refl, refl)

pub returns-then-new-lt-TEXT_BYTES : goal.returns-then-new-lt-TEXT_BYTES
returns-then-new-lt-TEXT_BYTES c = (inr c.if-new-lt-TEXT_BYTES.true, refl, refl)

pub refusal-requires : goal.refusal-requires
refusal-requires c = omega (arith, refusal-most budget_number 0 (omega arith) (omega arith), c.if-out-lt-HEADING_ROOM.false)

pub returns-then-budget-gt-MOST_STEPS : goal.returns-then-budget-gt-MOST_STEPS
returns-then-budget-gt-MOST_STEPS c =
    (budget-refused c.if-budget-gt-MOST_STEPS.true (omega (arith, refusal-most budget_number 0 (omega arith) (omega arith), c.if-out-lt-HEADING_ROOM.false)) c.refusal.ensures, refl)

pub refusal-requires-in-Err : goal.refusal-requires-in-Err
refusal-requires-in-Err c =
    omega (arith, refusal-most c.number-n.result c.line_of_number-line.result (search rules) (search rules), c.if-out-lt-HEADING_ROOM.false)

pub judged-requires : goal.judged-requires
judged-requires c =
    c.if-out-lt-HEADING_ROOM.false

pub returns-in-Err : goal.returns-in-Err
returns-in-Err c =
    let small : c.number-n.result < 2 ^ 8 = search rules in
    let short : c.line_of_number-line.result < 2 ^ 32 = search rules in
    let n = c.number-n.result in
    head-refused c.args.program.now c.args.marks.now _
    (record { verdicts = c.verdict_buffer-verdicts.result; new = c.args.new.now })
    (record { verdicts = c.judge-answer.new.verdicts; new = c.judge-answer.new.text })
    c.judge-answer.ensures c.if-budget-gt-MOST_STEPS.false n c.line_of_number-line.result c.in-Err.is c.number-n.ensures
    (omega arith, c.if-new-lt-TEXT_BYTES.false) (blamed c.line_of_number-line.ensures)
    (omega (arith, refusal-most n c.line_of_number-line.result small short, c.if-out-lt-HEADING_ROOM.false)) c.refusal-in-Err.ensures

pub returns-in-Ok : goal.returns-in-Ok
returns-in-Ok c =
    let m = c.in-Ok.told.marks in
    let a = c.in-Ok.told.accepted in
    head-judged c.args.program.now c.args.marks.now _
    (record { verdicts = c.verdict_buffer-verdicts.result; new = c.args.new.now })
    (record { verdicts = c.judge-answer.new.verdicts; new = c.judge-answer.new.text })
    c.judge-answer.ensures c.if-budget-gt-MOST_STEPS.false c.in-Ok.told c.in-Ok.is
    (omega (arith, heading-most m a (search rules) (search rules), c.if-out-lt-HEADING_ROOM.false)) c.judged.ensures
