-- `outside` meets its contract. Assumes nothing.
use Rattle.slips.specs.Words.{quoted}
use Rattle.statement_writer.proofs.Puts.{put_then, room, front}
use Rattle.slips.proofs.words.outside.Goals as goal

pub quoted-k-requires : goal.quoted-k-requires
quoted-k-requires c = front (quoted c.args.before.now c.args.v) c.args.after.now c.args.at _ c.requires

pub word-requires : goal.word-requires
word-requires c = room c.args.after.now c.quoted-k.ensures c.requires

pub returns : goal.returns
returns c = put_then c.quoted-k.ensures c.word.ensures
