-- `print` meets its contract. The invariant: the pieces written so far bring printing to the position, and more is to come. Assumes nothing.
use mathlib.Core.Path.{refl, sym, ◌∙◌}
use mathlib.Core.Logic.{inr}
use lib.Seq.{length-take-le}
use Rattle.compare_runs.proofs.Pieces.{begins, piece-within, falls, goes_on, ends}
use Rattle.compare_runs.proofs.print.Goals as goal

pub loop-new-init : goal.loop-new-init
loop-new-init c = begins _ _ _ c.first-from.ensures c.text_buffer-new.ensures c.chunk-out.ensures

pub slice_bounds-next-end : goal.slice_bounds-next-end
slice_bounds-next-end c = sym c.loop-new.invariant.new

pub slice_bounds-next-end-in-loop-new : goal.slice_bounds-next-end-in-loop-new
slice_bounds-next-end-in-loop-new c = sym c.loop-new.invariant.out

pub slice_bounds-out-end : goal.slice_bounds-out-end
slice_bounds-out-end c = piece-within c.loop-new.invariant c.next-piece.ensures

pub slice_bounds-write-end : goal.slice_bounds-write-end
slice_bounds-write-end c = sym (length-take-le _ _ (piece-within c.loop-new.invariant c.next-piece.ensures))

pub returns-then-not-write : goal.returns-then-not-write
returns-then-not-write c = inr (inr refl)

pub returns-in-Some : goal.returns-in-Some
returns-in-Some c =
    ends c.loop-new.invariant c.next-piece.ensures (sym c.end_at.ensures ∙ c.in-Some.is)

pub loop-new-smaller : goal.loop-new-smaller
loop-new-smaller c = falls c.loop-new.invariant c.next-piece.ensures

pub loop-new-preserved : goal.loop-new-preserved
loop-new-preserved c =
    goes_on c.loop-new.invariant c.next-piece.ensures (sym c.end_at.ensures ∙ c.in_default.is)
