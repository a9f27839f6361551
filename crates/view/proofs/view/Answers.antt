-- `view` meets its contract: at each return what was read, or refused, is printed. Assumes nothing.
use mathlib.Core.Logic.{inl}
use native.Mathlib.Omega.{arith}
use Rattle.table.specs.Fill.{HeldOf}
use Rattle.tabulate.proofs.Tabulates.{tabulated}
use Rattle.blame.proofs.Blames.{blames}
use Rattle.view.proofs.Views.{refusal-printed, view-fits, view-printed}
use Rattle.view.proofs.view.Goals as goal

pub returns-in-Err : goal.returns-in-Err
returns-in-Err c =
    refusal-printed (inl (c.in-Err.refusal, c.in-Err.ensures, c.number.ensures, blames c.line_of-line.ensures c.in-Err.ensures)) c.if-out-lt-VIEW_ROOM.false c.write_refusal.ensures

pub write_view-requires : goal.write_view-requires
write_view-requires c =
    let h : HeldOf c.args.condition.now c.in-Ok-read.ensures.0 c.in-Ok-read.c.count c.in-Ok-read.c.words = record { taken = c.in-Ok-read.ensures.1; held = c.in-Ok-read.ensures.2 } in
    let f = tabulated h c.in-Ok.ensures.0 (omega (arith, c.table_buffer-table.ensures)) (c.fill-summary.ensures.table c.in-Ok-read.ensures.0 h) c.fill-summary.ensures.counts in
    view-fits f c.table_buffer-table.ensures c.in-Ok.p c.in-Ok.ensures.0 c.in-Ok.ensures.1 c.in-Ok-read.ensures.0 c.in-Ok-read.c.words h c.if-out-lt-VIEW_ROOM.false

pub returns : goal.returns
returns c =
    let h : HeldOf c.args.condition.now c.in-Ok-read.ensures.0 c.in-Ok-read.c.count c.in-Ok-read.c.words = record { taken = c.in-Ok-read.ensures.1; held = c.in-Ok-read.ensures.2 } in
    let f = tabulated h c.in-Ok.ensures.0 (omega (arith, c.table_buffer-table.ensures)) (c.fill-summary.ensures.table c.in-Ok-read.ensures.0 h) c.fill-summary.ensures.counts in
    view-printed f c.table_buffer-table.ensures c.in-Ok.p c.in-Ok.ensures.0 c.in-Ok.ensures.1 c.in-Ok-read.ensures.0 c.in-Ok-read.c.words h c.if-out-lt-VIEW_ROOM.false c.write_view.ensures
