-- `begin` meets its contract: the run stands before its first statement, or is told to be refused. Assumes nothing.
use mathlib.Core.Path.{refl}
use Rattle.transcript.specs.declared.Stage.TheVariants.{Begin}
use Rattle.transcript.proofs.Printing.{ready_refused, told-hands, begin-hands}
use Rattle.transcript.proofs.begin.Goals as goal

pub returns-in_default : goal.returns-in_default
returns-in_default c =
    let none = rw c.in_default.is at c.run_of.ensures in
    told-hands Begin c.requires.stage_value refl c.requires.transcript_room_in_bounds (λ b h. ready_refused _ _ b none h) c.tell.ensures

pub returns : goal.returns
returns c =
    let read = rw c.in-Some.is at c.run_of.ensures in
    begin-hands c.requires.stage_value read.0 c.requires.transcript_room_in_bounds c.heads.ensures
