-- `on_line` meets its contract: a text, the line's number, a text. Assumes nothing.
use Rattle.language.specs.Spelling.{digits}
use mathlib.Core.List.{◌++◌}
use Rattle.statement_writer.proofs.Puts.{put_then, room, front}
use Rattle.desk.proofs.refusals.on_line.Goals as goal

pub word-k1-requires : goal.word-k1-requires
word-k1-requires c = front c.args.before.now (digits c.args.line ++ c.args.after.now) c.args.at _ c.requires

pub number-k2-requires : goal.number-k2-requires
number-k2-requires c =
    front (digits c.args.line) c.args.after.now _ _ (room (digits c.args.line ++ c.args.after.now) c.word-k1.ensures c.requires)

pub word-requires : goal.word-requires
word-requires c =
    room c.args.after.now c.number-k2.ensures (room (digits c.args.line ++ c.args.after.now) c.word-k1.ensures c.requires)

pub returns : goal.returns
returns c = put_then c.word-k1.ensures (put_then c.number-k2.ensures c.word.ensures)
