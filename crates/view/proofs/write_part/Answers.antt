-- `write_part` meets its contract: the number, two spaces, the text and byte 10. Assumes nothing.
use native.Mathlib.Omega.{arith}
use Rattle.statement_writer.proofs.Puts.{put_then}
use Rattle.view.specs.View.{part_line}
use Rattle.view.proofs.Texts.{part_length}
use Rattle.view.proofs.write_part.Goals as goal

pub number-k1-requires : goal.number-k1-requires
number-k1-requires c = omega (arith, part_length c.args.k c.args.text.now)

pub spaces-k2-requires : goal.spaces-k2-requires
spaces-k2-requires c = omega (arith, part_length c.args.k c.args.text.now)

pub word-k3-requires : goal.word-k3-requires
word-k3-requires c = omega (arith, part_length c.args.k c.args.text.now)

pub byte-requires : goal.byte-requires
byte-requires c = omega (arith, part_length c.args.k c.args.text.now)

pub returns : goal.returns
unfolding part_line
returns c = put_then c.number-k1.ensures (put_then c.spaces-k2.ensures (put_then c.word-k3.ensures c.byte.ensures))
