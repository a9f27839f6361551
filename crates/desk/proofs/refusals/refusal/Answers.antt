-- `refusal` meets its contract: the line with the number, then that with the words. Assumes nothing.
use native.Mathlib.Omega.{arith}
use Rattle.statement_writer.proofs.Puts.{put_then}
use Rattle.desk.specs.Refusals.{refusal_text}
use Rattle.desk.proofs.Rooms.{refusal-length}
use Rattle.desk.proofs.refusals.refusal.Goals as goal

pub word-k1-requires : goal.word-k1-requires
word-k1-requires c = omega (arith, refusal-length c.args.n c.args.line)

pub number-k2-requires : goal.number-k2-requires
number-k2-requires c = omega (arith, refusal-length c.args.n c.args.line)

pub byte-k3-requires : goal.byte-k3-requires
byte-k3-requires c = omega (arith, refusal-length c.args.n c.args.line)

pub words-k4-requires : goal.words-k4-requires
words-k4-requires c = omega (arith, refusal-length c.args.n c.args.line)

pub byte-requires : goal.byte-requires
byte-requires c = omega (arith, refusal-length c.args.n c.args.line)

pub returns : goal.returns
unfolding refusal_text
returns c = put_then c.word-k1.ensures (put_then c.number-k2.ensures (put_then c.byte-k3.ensures (put_then c.words-k4.ensures c.byte.ensures)))
