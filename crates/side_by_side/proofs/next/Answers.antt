-- `next` meets its contract: with room the piece is printed by what the start is. Assumes nothing.
use Rattle.side_by_side.proofs.Pieces.{with-room, without-out, without-new}
use Rattle.side_by_side.proofs.next.Goals as goal

pub returns-then-out-lt-SIDE_BY_SIDE_ROOM : goal.returns-then-out-lt-SIDE_BY_SIDE_ROOM
returns-then-out-lt-SIDE_BY_SIDE_ROOM c = without-out _ _ _ _ _ _ c.if-out-lt-SIDE_BY_SIDE_ROOM.true c.stay.ensures

pub returns-then-new-lt-TEXT_BYTES : goal.returns-then-new-lt-TEXT_BYTES
returns-then-new-lt-TEXT_BYTES c = without-new _ _ _ _ _ _ c.if-new-lt-TEXT_BYTES.true c.stay-then-new-lt-TEXT_BYTES.ensures

pub taken-requires : goal.taken-requires
taken-requires c =
    record { side_by_side_room_in_bounds = c.if-out-lt-SIDE_BY_SIDE_ROOM.false; text_bytes_in_bounds = c.if-new-lt-TEXT_BYTES.false; values_len = c.in-Ok.ensures.size }

pub returns-in-Ok : goal.returns-in-Ok
returns-in-Ok c = with-room c.if-out-lt-SIDE_BY_SIDE_ROOM.false c.if-new-lt-TEXT_BYTES.false (c.taken.ensures _ c.in-Ok.ensures)

pub returns-in-Err : goal.returns-in-Err
returns-in-Err c = with-room c.if-out-lt-SIDE_BY_SIDE_ROOM.false c.if-new-lt-TEXT_BYTES.false (c.refused.ensures _ _ _ _ c.in-Err.ensures)
