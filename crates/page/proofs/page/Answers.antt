-- `page` meets its contract: the view, escaped. Assumes nothing.
use Rattle.page.proofs.Escapes.{page-fits, page-printed}
use Rattle.page.proofs.page.Goals as goal

pub escape-requires : goal.escape-requires
escape-requires c = page-fits c.in-Ok.ensures c.plain_buffer-plain.ensures _ c.if-out-lt-PAGE_ROOM.false

pub escape-requires-in-Err-Refused : goal.escape-requires-in-Err-Refused
escape-requires-in-Err-Refused c = page-fits (rw c.in-Err-Refused.field-0-is at c.in-Err-Refused.ensures) c.plain_buffer-plain.ensures _ c.if-out-lt-PAGE_ROOM.false

pub returns-in-Ok : goal.returns-in-Ok
returns-in-Ok c = page-printed c.in-Ok.ensures c.plain_buffer-plain.ensures c.if-out-lt-PAGE_ROOM.false c.escape.ensures

pub returns-in-Err-Refused : goal.returns-in-Err-Refused
returns-in-Err-Refused c = page-printed (rw c.in-Err-Refused.field-0-is at c.in-Err-Refused.ensures) c.plain_buffer-plain.ensures c.if-out-lt-PAGE_ROOM.false c.escape-in-Err-Refused.ensures
