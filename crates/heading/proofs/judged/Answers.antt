-- `judged` meets its contract: the counts, then the line over the columns. Assumes nothing.
use native.Mathlib.Omega.{arith}
use Rattle.statement_writer.proofs.Puts.{put_then}
use Rattle.heading.specs.Heading.{column_heads, heading_text}
use Rattle.heading.proofs.Headings.{counts-most}
use borrow.Author.Rules.{rules}
use Rattle.heading.proofs.judged.Goals as goal

pub write_counts-k-requires : goal.write_counts-k-requires
write_counts-k-requires c = omega (arith, counts-most c.args.count c.args.accepted (search rules) (search rules), c.requires)

pub word-requires : goal.word-requires
word-requires c = omega (arith, counts-most c.args.count c.args.accepted (search rules) (search rules), c.requires)

pub returns : goal.returns
unfolding heading_text column_heads
returns c = put_then c.write_counts-k.ensures c.word.ensures
