-- `write` meets its contract: the lines, and the totals. Assumes nothing.
use native.Mathlib.Omega.{arith}
use mir.Syntax.{w32}
use mir.Val.{SFits}
use mir.Facts.{to_z-of_z}
use borrow.Author.Rules.{rules}
use Rattle.statement_writer.proofs.Puts.{put_then, put-length}
use Rattle.price_text.proofs.write.Goals as goal

pub lines-k-requires : goal.lines-k-requires
lines-k-requires c = (c.requires.0, omega (arith, c.requires.0, c.requires.1), c.requires.2, c.requires.3)

pub totals-requires : goal.totals-requires
totals-requires c =
    omega (arith, c.requires.0, c.requires.1, c.lines-k.ensures.1, put-length c.lines-k.ensures.0)

pub returns : goal.returns
returns c =
    let fits : SFits w32 c.args.list.saved = search rules in
    (put_then c.lines-k.ensures.0 (rw (to_z-of_z {w = w32} fits) at c.totals.ensures.0), omega (arith, c.requires.0, c.lines-k.ensures.1, c.totals.ensures.1))
