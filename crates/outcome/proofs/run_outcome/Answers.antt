-- `run_outcome` meets its contract: each answer is told by its text. Assumes nothing.
use native.Mathlib.Omega.{arith}
use borrow.Author.Rules.{rules}
use Rattle.blame.proofs.Blames.{blamed}
use Rattle.outcome.proofs.Lengths.{refused-most}
use Rattle.outcome.proofs.Outputs.{refusal-printed, answer-printed}
use Rattle.outcome.proofs.run_outcome.Goals as goal

pub refusal-requires : goal.refusal-requires
refusal-requires c = omega (arith, refused-most c.number-n.result c.line_of_number-line.result (search rules) (search rules))

pub returns-in-Err : goal.returns-in-Err
returns-in-Err c =
    let n = c.number-n.result in
    refusal-printed c.args.values c.args.input n c.line_of_number-line.result (rw c.number-n.ensures c.in-Err.ensures) (blamed c.line_of_number-line.ensures)
    (omega (arith, refused-most n c.line_of_number-line.result (search rules) (search rules))) c.refusal.ensures

pub returns-in-Ok : goal.returns-in-Ok
returns-in-Ok c = answer-printed _ _ c.in-Ok.ran (rw c.ours.ensures at c.in-Ok.ensures) c.answer_text.ensures.0 (omega (arith, c.answer_text.ensures.1))
