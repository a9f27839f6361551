-- `live_row` meets its contract: the text that is written is taken as the variable's liveness. Assumes nothing.
use mathlib.Core.Path.{sym}
use Prim.Native.Nat.{◌≤◌}
use native.Mathlib.Omega.{arith}
use lib.ListN.{length}
use lib.Seq.{length-take-le}
use Rattle.condition.specs.Condition.{spell_condition}
use Rattle.lockstep.specs.Rules.{live}
use Rattle.published.proofs.Published.{live-short}
use Rattle.liveness.proofs.Rows.{live_small, live-labelled}
use Rattle.statement_writer.proofs.Puts.{put_front, put-within}
use Rattle.liveness.proofs.live_row.Goals as goal
use Rattle.liveness.proofs.live_row.Goals.{After-blank_text-text}

-- the condition's text has room
room : (c : After-blank_text-text) → length (spell_condition (live c.args.x)) ≤ length c.blank_text-text.result
room c = omega (arith, live-short c.args.x c.requires.valid_variable, c.blank_text-text.ensures)

pub slice_bounds-text-end : goal.slice_bounds-text-end
slice_bounds-text-end c = put-within c.write_live-end.ensures (room (goal.at.slice_bounds-text-end c).After-blank_text-text)

pub slice_bounds-row_of-end : goal.slice_bounds-row_of-end
slice_bounds-row_of-end c = sym (length-take-le _ _ ((put-within c.write_live-end.ensures (room (goal.at.slice_bounds-row_of-end c).After-blank_text-text))))

pub row_of-requires : goal.row_of-requires
row_of-requires c =
    record { some_known = c.requires.some_known; small_taken = live_small c.args.x c.requires.valid_variable _ (put_front c.write_live-end.ensures (room (goal.at.row_of-requires c).After-blank_text-text)) }

pub returns : goal.returns
returns c =
    let text = put_front c.write_live-end.ensures (room (goal.at.returns c).After-blank_text-text) in
    ((c.row_of.ensures c.requires.some_known.P c.requires.some_known.known).room, λ P k. live-labelled c.args.x c.requires.valid_variable _ text (c.row_of.ensures P k))
