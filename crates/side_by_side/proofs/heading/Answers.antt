-- `heading` meets its contract: the refusal of the budget, the program or the marks, or the counts. Assumes nothing.
use mathlib.Core.Path.{refl}
use mathlib.Core.Logic.{⊎_elim}
use native.Mathlib.Omega.{arith}
use Rattle.side_by_side.proofs.Starts.{refused-heading, judged-heading}
use Rattle.side_by_side.proofs.heading.Goals as goal

pub returns-in-Refused : goal.returns-in-Refused
returns-in-Refused c = λ u input start.
    let h = rw c.in-Refused.is at c.write-head.ensures in
    refused-heading _ _ u start c.told.ensures h.0 h.1

pub returns-in-Judged : goal.returns-in-Judged
returns-in-Judged c = λ u input start.
    judged-heading _ _ u start (rw c.in-Judged.is at c.write-head.ensures) c.find-live.ensures refl

pub returns-in-NoRoom : goal.returns-in-NoRoom
returns-in-NoRoom c = λ u input start.
    let h = rw c.in-NoRoom.is at c.write-head.ensures in
    absurd (⊎_elim (λ l. omega (arith, l, c.requires.side_by_side_room_in_bounds)) (λ l. omega (arith, l, c.requires.text_bytes_in_bounds)) h.0)
