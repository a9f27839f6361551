-- `steps` meets its contract. The invariant: the lines of the steps so far are written, and both runs stand before the place. Assumes nothing.
use mathlib.Core.Path.{refl, ◌∙◌}
use mathlib.Core.Logic.{inl, inr}
use Prim.Native.Nat.{ℕ, ◌-◌, ◌≤◌, ◌<◌}
use native.Mathlib.Omega.{arith}
use lib.ListN.{length}
use Rattle.base.proofs.Decides.{decided-true, decided-false}
use Rattle.program.specs.Program.{most, Targets, WellFormed}
use Rattle.language.specs.Spelling.{Valid}
use Rattle.program.specs.Reading.{statements}
use Rattle.program.specs.declared.Program.{Program}
use Rattle.program.proofs.Held.{held, held-valid, held-targets}
use Rattle.statement_writer.proofs.Puts.{put-length}
use Rattle.trace.proofs.Walk.{through}
use Rattle.comparison.proofs.Walk.{not-gone, going_more, ended-step, stopped}
use Rattle.comparison.proofs.steps.Goals as goal

-- the statement that a program has at a place is right
right : (p : Program) (s : ℕ) → WellFormed (statements p) → s < length (statements p)
    → Valid (held p.entries s) × (Targets most (held p.entries s) × (s < most))
right p s w h = (held-valid p.entries p.count s h w, (held-targets p.entries p.count s h w, omega (arith, w.counted.1)))

pub loop-k-init : goal.loop-k-init
loop-k-init c = (not-gone _ _ _ _ _ _ _ _ _ _ c.requires.at_in_bounds c.requires.q_len, λ h. refl)

pub overflow_sub-out : goal.overflow_sub-out
overflow_sub-out c = omega (arith, c.loop-k.invariant.0.fits, c.loop-k.invariant.0.same)

pub shape_of-out-then-out-to-lt-LINE_ROOM : goal.shape_of-out-then-out-to-lt-LINE_ROOM
shape_of-out-then-out-to-lt-LINE_ROOM c = c.loop-k.invariant.0.same

pub returns-then-out-to-lt-LINE_ROOM : goal.returns-then-out-to-lt-LINE_ROOM
returns-then-out-to-lt-LINE_ROOM c = stopped c.loop-k.invariant.0 _ refl refl refl (inl refl) (λ e. inr (omega (arith, c.if-out-to-lt-LINE_ROOM.true, c.loop-k.invariant.0.fits, c.loop-k.invariant.0.same))) (λ e rows m n g. cc)

pub agree-requires : goal.agree-requires
agree-requires c =
    ((right c.args.p c.loop-k.place c.requires.well_formed c.loop-k.invariant.0.inside).1.1, c.requires.live_len)

pub shape_of-out-then-not-agree : goal.shape_of-out-then-not-agree
shape_of-out-then-not-agree c = c.loop-k.invariant.0.same

pub step-next-requires : goal.step-next-requires
step-next-requires c =
    let a = right c.args.p c.loop-k.place c.requires.well_formed c.loop-k.invariant.0.inside in
    record { valid = rw c.statement_of-s.ensures a.0; targets = rw c.statement_of-s.ensures a.1.0; at_lt_most = a.1.1 }

pub step-requires : goal.step-requires
step-requires c =
    let b = right c.args.q c.loop-k.place c.requires.well_formed_2 (omega (arith, c.requires.q_len, c.loop-k.invariant.0.inside)) in
    record { valid = rw c.statement_of-t.ensures b.0; targets = rw c.statement_of-t.ensures b.1.0; at_lt_most = b.1.1 }

pub line-to-requires : goal.line-to-requires
line-to-requires c =
    let a = right c.args.p c.loop-k.place c.requires.well_formed c.loop-k.invariant.0.inside in
    let b = right c.args.q c.loop-k.place c.requires.well_formed_2 (omega (arith, c.requires.q_len, c.loop-k.invariant.0.inside)) in
    record {
      valid = rw c.statement_of-s.ensures (a.0, a.1.0);
      valid_2 = rw c.statement_of-t.ensures (b.0, b.1.0);
      place_lt_most = a.1.1;
      line_room_in_bounds = omega (arith, c.if-out-to-lt-LINE_ROOM.false, c.loop-k.invariant.0.fits, c.loop-k.invariant.0.same);
    }

pub line-to-requires-in-None : goal.line-to-requires-in-None
line-to-requires-in-None c =
    let a = right c.args.p c.loop-k.place c.requires.well_formed c.loop-k.invariant.0.inside in
    let b = right c.args.q c.loop-k.place c.requires.well_formed_2 (omega (arith, c.requires.q_len, c.loop-k.invariant.0.inside)) in
    record {
      valid = rw c.statement_of-s.ensures (a.0, a.1.0);
      valid_2 = rw c.statement_of-t.ensures (b.0, b.1.0);
      place_lt_most = a.1.1;
      line_room_in_bounds = omega (arith, c.if-out-to-lt-LINE_ROOM.false, c.loop-k.invariant.0.fits, c.loop-k.invariant.0.same);
    }

pub shape_of-out-in-None : goal.shape_of-out-in-None
shape_of-out-in-None c =
    put-length c.line-to-in-None.ensures.0
    ∙ c.loop-k.invariant.0.same

pub shape_of-out : goal.shape_of-out
shape_of-out c = c.loop-k.invariant.0.same

pub returns : goal.returns
returns c = stopped c.loop-k.invariant.0 _ (c.max.ensures ∙ through _ _ _ c.loop-k.invariant.1 c.loop-k.auto.k-end c.loop-k-test.false) refl refl (inl refl) (λ e. inl c.loop-k-test.false) (λ e rows m n g. cc)

pub returns-then-not-agree : goal.returns-then-not-agree
returns-then-not-agree c =
    stopped c.loop-k.invariant.0 _ refl refl refl (inr refl) (λ e. absurd (e refl))
    (λ e rows m n. decided-false c.agree.result c.if-not-agree.true (c.agree.ensures (statements c.args.p) rows c.loop-k.invariant.0.inside m n))

pub loop-k-preserved : goal.loop-k-preserved
loop-k-preserved c =
    let goes = rw c.in-Some.is at c.way_on-way.ensures in (
      going_more c.args.p c.args.q _ _ _ _ _ c.step-next.new.values c.step.new.values c.step-next.result c.step.result (rw c.statement_of-s.ensures at c.step-next.ensures) (rw c.statement_of-t.ensures at c.step.ensures)
          c.requires.well_formed c.requires.well_formed_2 (λ rows m n. decided-true c.agree.result c.if-not-agree.false (c.agree.ensures (statements c.args.p) rows c.loop-k.invariant.0.inside m n))
          c.loop-k.invariant.0 c.loop-k-test.true _ goes (omega (arith, c.if-out-to-lt-LINE_ROOM.false, c.loop-k.invariant.0.fits, c.loop-k.invariant.0.same)) c.line-to.ensures.1 (rw (c.statement_of-s.ensures, c.statement_of-t.ensures) at c.line-to.ensures.0),
      λ h. omega (arith, c.loop-k.invariant.1, c.loop-k-test.true),
    )

pub returns-in-None : goal.returns-in-None
returns-in-None c =
    let end : c.line-to-in-None.result ≤ length c.args.out.now = omega (arith, c.line-to-in-None.ensures.1, c.if-out-to-lt-LINE_ROOM.false, c.loop-k.invariant.0.fits, c.loop-k.invariant.0.same) in
    let us = c.step-next.new.values in
    let over = ((rw c.in-None.is at c.way_on-way.ensures) us).1 in
    ended-step c.args.p c.args.q _ _ _ _ _ us c.step.new.values c.step-next.result c.step.result (rw c.statement_of-s.ensures at c.step-next.ensures) (rw c.statement_of-t.ensures at c.step.ensures)
    c.requires.well_formed c.requires.well_formed_2 (λ rows m n. decided-true c.agree.result c.if-not-agree.false (c.agree.ensures (statements c.args.p) rows c.loop-k.invariant.0.inside m n))
    c.loop-k.invariant.0 c.loop-k-test.true _ _ refl refl refl refl over end (rw (c.statement_of-s.ensures, c.statement_of-t.ensures) at c.line-to-in-None.ensures.0)
