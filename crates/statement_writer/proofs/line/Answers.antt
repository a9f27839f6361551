use mathlib.Core.List.{[], ◌∷◌}
use Rattle.language.specs.Spelling.{spell}
use Rattle.statement_writer.proofs.Puts.{put_then, room, front}
use Rattle.statement_writer.proofs.line.Goals as goal

pub statement-k-requires : goal.statement-k-requires
statement-k-requires c = front (spell c.args.s) (10 ∷ []) _ _ c.requires

pub byte-requires : goal.byte-requires
byte-requires c = room (10 ∷ []) c.statement-k.ensures c.requires

pub returns : goal.returns
returns c = put_then c.statement-k.ensures c.byte.ensures
