-- `steps` meets its contract. The invariant: the lines of the steps so far are written, and the run stands before the place. Assumes nothing.
use mathlib.Core.Path.{refl, ◌∙◌}
use mathlib.Core.Logic.{inl, inr}
use native.Mathlib.Omega.{arith}
use Rattle.program.proofs.Held.{held-valid, held-targets}
use Rattle.statement_writer.proofs.Puts.{put-length}
use Rattle.trace.proofs.Walk.{through, not-gone, going_more, ends, stopped}
use Rattle.trace.proofs.steps.Goals as goal

pub loop-k-init : goal.loop-k-init
loop-k-init c = (not-gone _ _ _ _ _ _ _ c.requires.at_in_bounds, λ h. refl)

pub overflow_sub-out : goal.overflow_sub-out
overflow_sub-out c = omega (arith, c.loop-k.invariant.0.fits, c.loop-k.invariant.0.same)

pub shape_of-out-then-out-to-lt-LINE_ROOM : goal.shape_of-out-then-out-to-lt-LINE_ROOM
shape_of-out-then-out-to-lt-LINE_ROOM c = c.loop-k.invariant.0.same

pub returns-then-out-to-lt-LINE_ROOM : goal.returns-then-out-to-lt-LINE_ROOM
returns-then-out-to-lt-LINE_ROOM c =
    stopped c.loop-k.invariant.0 _ refl refl refl refl (inr (omega (arith, c.if-out-to-lt-LINE_ROOM.true, c.loop-k.invariant.0.fits, c.loop-k.invariant.0.same)))

pub step-next-requires : goal.step-next-requires
step-next-requires c =
    let p = c.args.p in
    let w = c.requires.well_formed in
    record { valid = rw c.statement_of-s.ensures (held-valid p.entries p.count _ c.loop-k.invariant.0.inside w); targets = rw c.statement_of-s.ensures (held-targets p.entries p.count _ c.loop-k.invariant.0.inside w); at_lt_most = omega (arith, c.loop-k.invariant.0.inside, w.counted.1) }

pub line-to-requires : goal.line-to-requires
line-to-requires c =
    let p = c.args.p in
    let w = c.requires.well_formed in
    record { valid = rw c.statement_of-s.ensures (held-valid p.entries p.count _ c.loop-k.invariant.0.inside w); targets = rw c.statement_of-s.ensures (held-targets p.entries p.count _ c.loop-k.invariant.0.inside w); place_lt_most = omega (arith, c.loop-k.invariant.0.inside, w.counted.1); line_room_in_bounds = omega (arith, c.if-out-to-lt-LINE_ROOM.false, c.loop-k.invariant.0.fits, c.loop-k.invariant.0.same) }

pub loop-k-preserved : goal.loop-k-preserved
loop-k-preserved c =
    let goes = rw c.in-Some.is at c.way_on-way.ensures in (
      going_more c.args.p _ _ _ _ _ (rw c.statement_of-s.ensures at c.step-next.ensures) c.loop-k.invariant.0 c.loop-k-test.true
          (omega (arith, c.if-out-to-lt-LINE_ROOM.false, c.loop-k.invariant.0.fits, c.loop-k.invariant.0.same)) c.line-to.ensures.1 _ c.requires.well_formed goes (rw c.statement_of-s.ensures at c.line-to.ensures.0),
      λ h. omega (arith, c.loop-k.invariant.1, c.loop-k-test.true),
    )

pub last_line-to-requires : goal.last_line-to-requires
last_line-to-requires c =
    let p = c.args.p in
    let w = c.requires.well_formed in
    record { valid = rw c.statement_of-s.ensures (held-valid p.entries p.count _ c.loop-k.invariant.0.inside w); targets = rw c.statement_of-s.ensures (held-targets p.entries p.count _ c.loop-k.invariant.0.inside w); place_lt_most = omega (arith, c.loop-k.invariant.0.inside, w.counted.1); line_room_in_bounds = omega (arith, c.if-out-to-lt-LINE_ROOM.false, c.loop-k.invariant.0.fits, c.loop-k.invariant.0.same) }

pub shape_of-out-in-None : goal.shape_of-out-in-None
shape_of-out-in-None c =
    put-length c.last_line-to.ensures.0 ∙ c.loop-k.invariant.0.same

pub returns-in-None : goal.returns-in-None
returns-in-None c =
    let us = c.step-next.new.values in
    let over = ((rw c.in-None.is at c.way_on-way.ensures) us).1 in
    ends c.args.p _ _ _ us c.step-next.result (rw c.statement_of-s.ensures at c.step-next.ensures) c.loop-k.invariant.0 c.loop-k-test.true
    (omega (arith, c.if-out-to-lt-LINE_ROOM.false, c.loop-k.invariant.0.fits, c.loop-k.invariant.0.same)) c.last_line-to.ensures.1 _ _ refl refl refl refl over (rw c.statement_of-s.ensures at c.last_line-to.ensures.0)

pub shape_of-out : goal.shape_of-out
shape_of-out c = c.loop-k.invariant.0.same

pub returns : goal.returns
returns c = stopped c.loop-k.invariant.0 _ (c.max.ensures ∙ through _ _ _ c.loop-k.invariant.1 c.loop-k.auto.k-end c.loop-k-test.false) refl refl refl (inl c.loop-k-test.false)
