-- `steps` meets its contract: the lines of further steps follow those that were handed out, or the outcome does. Assumes nothing.
use mathlib.Core.Path.{refl}
use mathlib.Core.Logic.{inl, inr}
use native.Mathlib.Omega.{arith}
use Rattle.transcript.specs.declared.Stage.TheVariants.{Steps}
use Rattle.transcript.proofs.Printing.{ready-none, ready-done, told-hands, lines-hand}
use Rattle.transcript.proofs.steps.Goals as goal
use Rattle.transcript.proofs.steps.Goals.{then-run-from-via-then-run-from, then-run-from-via-else-run-from+then-run-from-2}

pub returns-in_default : goal.returns-in_default
returns-in_default c =
    let none = rw c.in_default.is at c.run_of.ensures in
    told-hands Steps c.requires.stage_value refl c.requires.transcript_room_in_bounds (λ b h. ready-none c.args.from b h none) c.tell.ensures

pub returns-then-run-from : goal.returns-then-run-from
returns-then-run-from c =
    told-hands Steps c.requires.stage_value refl c.requires.transcript_room_in_bounds
    (λ b h. ready-done c.args.from b h c.in-Some.ensures
    (elim c.then-run-from.branch [
      | then-run-from-via-then-run-from w ↦ inl w.if-run-from.true
      | then-run-from-via-else-run-from+then-run-from-2 w ↦ inr w.if-run-from-2.true
    ]))
    c.tell-then-run-from.ensures

pub returns : goal.returns
returns c =
    rw c.stage_after.ensures
    (lines-hand _ c.in-Some.ensures.0 c.args.from c.requires.stage_value c.requires.transcript_room_in_bounds (omega (arith, c.if-run-from-2.false)) c.steps-r.result c.steps-r.ensures)
