-- `wrong_target` meets its contract. Assumes nothing.
use Rattle.slips.specs.Words.{quoted, slip_words}
use Rattle.statement_writer.proofs.Puts.{put_then, room, front}
use Rattle.language.specs.Spelling.{digits}
use Rattle.base.specs.Bytes.{bytes}
use mathlib.Core.List.{[], ◌++◌}
use Rattle.slips.proofs.words.wrong_target.Goals as goal

pub quoted-k1-requires : goal.quoted-k1-requires
unfolding slip_words
quoted-k1-requires c = front (quoted [] c.args.v) (bytes " is outside 2 to " ++ digits c.args.n) c.args.at _ c.requires

pub word-k2-requires : goal.word-k2-requires
unfolding slip_words
word-k2-requires c =
    front (bytes " is outside 2 to ") (digits c.args.n) _ _ (room (bytes " is outside 2 to " ++ digits c.args.n) c.quoted-k1.ensures c.requires)

pub number-requires : goal.number-requires
unfolding slip_words
number-requires c =
    room (digits c.args.n) c.word-k2.ensures (room (bytes " is outside 2 to " ++ digits c.args.n) c.quoted-k1.ensures c.requires)

pub returns : goal.returns
unfolding slip_words
returns c = put_then c.quoted-k1.ensures (put_then c.word-k2.ensures c.number.ensures)
