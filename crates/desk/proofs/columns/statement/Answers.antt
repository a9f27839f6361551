-- `statement` meets its contract: the text, then spaces. Assumes nothing.
use native.Mathlib.Omega.{arith}
use Rattle.language.specs.Spelling.{spell}
use Rattle.desk.proofs.Lengths.{padded-length, padded-put, padded-room}
use Rattle.desk.proofs.columns.statement.Goals as goal

pub statement-k-requires : goal.statement-k-requires
statement-k-requires c = omega (arith, padded-length c.args.w (spell c.args.s), c.requires)

pub overflow_sub-k : goal.overflow_sub-k
overflow_sub-k c = omega (arith, c.statement-k.ensures.after)

pub spaces-requires : goal.spaces-requires
spaces-requires c = padded-room c.args.w c.statement-k.ensures c.gap.ensures c.requires

pub returns : goal.returns
returns c = padded-put c.args.w c.statement-k.ensures c.gap.ensures c.spaces.ensures
