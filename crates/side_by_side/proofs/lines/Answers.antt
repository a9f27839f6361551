-- `lines` meets its contract: where printing stands in `Steps`, both texts are taken as the programs that run. Assumes nothing.
use mathlib.Core.Path.{sym, ◌∙◌}
use native.Mathlib.Omega.{arith}
use lib.Seq.{length-take-le}
use Rattle.program.proofs.Unique.{taken_refused}
use Rattle.side_by_side.proofs.Stepping.{never-steps, same_count, place_inside, count_of}
use Rattle.side_by_side.proofs.lines.Goals as goal

pub returns-then-new-end : goal.returns-then-new-end
returns-then-new-end c = λ m u values start. never-steps _ m u _ _ c.requires.stage_value c.stay.ensures (λ b s. omega (arith, s.within, c.if-new-end.true))

pub returns-in_default : goal.returns-in_default
returns-in_default c = λ m u values start.
    let f = rw c.in_default.is at c.read.ensures in
    never-steps _ m u _ _ c.requires.stage_value c.stay-in_default.ensures (λ b s. taken_refused _ s.runs.demand.given c.in_default.field-0 f)

pub slice_bounds-read-end : goal.slice_bounds-read-end
slice_bounds-read-end c = sym (length-take-le _ _ c.if-new-end.false)

pub returns-in_default-read : goal.returns-in_default-read
returns-in_default-read c = λ m u values start.
    let f = rw c.in_default-read.is at c.read-2.ensures in
    never-steps _ m u _ _ c.requires.stage_value c.stay-in_default-read.ensures (λ b s. taken_refused _ s.runs.demand.taken c.in_default-read.field-0 f)

pub returns-then-q-p : goal.returns-then-q-p
returns-then-q-p c = λ m u values start.
    let a = rw c.in-Ok.is at c.read.ensures in
    let b = rw c.in-Ok-read.is at c.read-2.ensures in
    never-steps _ m u _ _ c.requires.stage_value c.stay-then-q-p.ensures
    (λ x s. c.if-q-p.true (sym (count_of b.1) ∙ same_count s a.0 b.0 ∙ count_of a.1))

pub returns-then-p-from : goal.returns-then-p-from
returns-then-p-from c = λ m u values start.
    let a = rw c.in-Ok.is at c.read.ensures in
    let b = rw c.in-Ok-read.is at c.read-2.ensures in
    never-steps _ m u _ _ c.requires.stage_value c.stay-then-p-from.ensures (λ x s. omega (arith, place_inside s a.0 b.0, count_of a.1, c.if-p-from.true))

pub step_lines-requires : goal.step_lines-requires
step_lines-requires c =
    let a = rw c.in-Ok.is at c.read.ensures in
    let b = rw c.in-Ok-read.is at c.read-2.ensures in
    record { well_formed = a.0.program; well_formed_2 = b.0.program; q_len = count_of b.1 ∙ c.if-q-p.false ∙ sym (count_of a.1); at_in_bounds = omega (arith, count_of a.1, c.if-p-from.false); side_by_side_room_in_bounds = c.requires.side_by_side_room_in_bounds; stage_value = c.requires.stage_value }

pub returns : goal.returns
returns c = λ m u values start.
    let a = rw c.in-Ok.is at c.read.ensures in
    let b = rw c.in-Ok-read.is at c.read-2.ensures in
    c.step_lines.ensures _ m u _ values start a.0 b.0
