-- `next` meets its contract: each stage's part of the output follows what was handed out before. Assumes nothing.
use Rattle.transcript.specs.Transcript.{is_over}
use Rattle.transcript.proofs.Printing.{ready-plain, ready-over, told-hands, nothing-hands}
use Rattle.transcript.specs.declared.Stage.TheVariants.{Begin, Outcome, Ended, Refused}
use mathlib.Core.Logic.{◌⊎◌, inl, inr}
use mathlib.Core.Bool.{true}
use mathlib.Core.Path.{◌≡◌, refl, ap}
use Rattle.transcript.proofs.next.Goals as goal

pub returns-then-out-lt-TRANSCRIPT_ROOM : goal.returns-then-out-lt-TRANSCRIPT_ROOM
returns-then-out-lt-TRANSCRIPT_ROOM c = nothing-hands _ _ _ _ c.args.from _ refl (inl c.if-out-lt-TRANSCRIPT_ROOM.true)

pub returns-then-trace : goal.returns-then-trace
returns-then-trace c = rw c.if-trace.true c.begin.ensures

pub returns-else-trace : goal.returns-else-trace
returns-else-trace c =
    rw c.if-trace.false (told-hands Begin c.in-Begin.is refl c.if-out-lt-TRANSCRIPT_ROOM.false (λ b h. ready-plain _ _ b h) c.tell.ensures)

pub returns-in-Outcome : goal.returns-in-Outcome
returns-in-Outcome c =
    told-hands Outcome c.in-Outcome.is refl c.if-out-lt-TRANSCRIPT_ROOM.false (λ b h. ready-over h) c.tell-in-Outcome.ensures

pub returns-in-Ended : goal.returns-in-Ended
returns-in-Ended c = nothing-hands _ _ _ _ c.args.from _ refl (inr (over c.in-Ended.is))
  where
    over : (c.args.from.stage ≡ Ended) ⊎ (c.args.from.stage ≡ Refused) → is_over c.args.from.stage ≡ true
    over (inl e) = ap is_over e
    over (inr e) = ap is_over e
