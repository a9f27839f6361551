use native.Mathlib.Omega.{arith}
use Rattle.statement_writer.proofs.Puts.{put_then}
use Rattle.published.proofs.Published.{Lengths, lengths-most}
use Rattle.published.proofs.write_sure.Goals as goal
use Rattle.published.proofs.write_sure.Goals.{Start}

-- the lengths of the parts
lengths : (s : Start) → Lengths s.args.x s.args.e
lengths s = lengths-most s.args.x s.args.e s.requires.0 s.requires.1

pub variable-k2-requires : goal.variable-k2-requires
variable-k2-requires c = omega (arith, lengths (goal.at.variable-k2-requires c).Start)

pub word-k3-requires : goal.word-k3-requires
word-k3-requires c = omega (arith, lengths (goal.at.word-k3-requires c).Start)

pub expression-k4-requires : goal.expression-k4-requires
expression-k4-requires c = omega (arith, lengths (goal.at.expression-k4-requires c).Start)

pub word-requires : goal.word-requires
word-requires c = omega (arith, lengths (goal.at.word-requires c).Start)

pub returns : goal.returns
returns c =
    put_then c.word-k1.ensures (put_then c.variable-k2.ensures (put_then c.word-k3.ensures (put_then c.expression-k4.ensures c.word.ensures)))
