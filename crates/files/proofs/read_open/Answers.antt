-- The lent bytes beyond the room for a file are kept.
use Rattle.files.proofs.Files.{kept, ended-whole}
use Rattle.files.proofs.read_open.Goals as goal

pub returns-in-Ok-Some : goal.returns-in-Ok-Some
returns-in-Ok-Some c =
    ended-whole c.args.buffer.now c.read_to_end.new.buffer c.if-buffer-lt-FILE_ROOM.false (rw c.in-Ok-Some.field-0-is at c.in-Ok-Some.ensures)

pub returns-in-Ok-None : goal.returns-in-Ok-None
returns-in-Ok-None c =
    kept c.args.buffer.now c.read_to_end.new.buffer c.if-buffer-lt-FILE_ROOM.false (rw c.in-Ok-None.field-0-is at c.in-Ok-None.ensures)

pub returns-in-Err : goal.returns-in-Err
returns-in-Err c = kept c.args.buffer.now c.read_to_end.new.buffer c.if-buffer-lt-FILE_ROOM.false c.in-Err.ensures
