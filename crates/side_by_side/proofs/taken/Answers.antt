-- `taken` meets its contract, stage by stage. Assumes nothing.
use mathlib.Core.Path.{refl}
use Rattle.side_by_side.proofs.Pieces.{begins-any, whole-stays}
use Rattle.side_by_side.proofs.taken.Goals as goal

pub lines-requires : goal.lines-requires
lines-requires c = record { side_by_side_room_in_bounds = c.requires.side_by_side_room_in_bounds; stage_value = c.in-Steps.is }

pub closing-requires : goal.closing-requires
closing-requires c = record { side_by_side_room_in_bounds = c.requires.side_by_side_room_in_bounds; stage_value = c.in-Closing.is; values_len = c.requires.values_len; text_bytes_in_bounds = c.requires.text_bytes_in_bounds }

pub returns-in-Begin : goal.returns-in-Begin
returns-in-Begin c = λ u start. begins-any _ _ u _ c.in-Begin.is (c.heading.ensures u _ start)

pub returns-in-Steps : goal.returns-in-Steps
returns-in-Steps c = λ u start. c.lines.ensures _ u _ start

pub returns-in-Closing : goal.returns-in-Closing
returns-in-Closing c = λ u start. c.closing.ensures u start

pub returns-in-Ended : goal.returns-in-Ended
returns-in-Ended c = λ u start. whole-stays _ _ u _ _ _ _ c.in-Ended.is refl c.stay.ensures

pub returns-in-Refused : goal.returns-in-Refused
returns-in-Refused c = λ u start. whole-stays _ _ u _ _ _ _ c.in-Refused.is refl c.stay-in-Refused.ensures
