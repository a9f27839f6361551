use Prim.Native.Nat.{◌≤◌}
use native.Mathlib.Omega.{arith}
use lib.ListN.{length}
use Rattle.language.specs.Spelling.{spell_variable}
use Rattle.language.specs.Room.{variable_room}
use Rattle.language.proofs.Lengths.{variable-most}
use Rattle.statement_writer.proofs.Puts.{put_then}
use Rattle.published.proofs.Published.{live-text}
use Rattle.published.proofs.write_live.Goals as goal
use Rattle.published.proofs.write_live.Goals.{Start}

-- the variable is short
short : (s : Start) → length (spell_variable s.args.x) ≤ variable_room
short s = variable-most s.args.x s.requires.0

pub variable-k2-requires : goal.variable-k2-requires
variable-k2-requires c = omega (arith, short (goal.at.variable-k2-requires c).Start)

pub word-k3-requires : goal.word-k3-requires
word-k3-requires c = omega (arith, short (goal.at.word-k3-requires c).Start)

pub variable-k4-requires : goal.variable-k4-requires
variable-k4-requires c = omega (arith, short (goal.at.variable-k4-requires c).Start)

pub word-requires : goal.word-requires
word-requires c =
    omega (arith, short (goal.at.word-requires c).Start)

pub returns : goal.returns
returns c =
    rw live-text
    (put_then c.word-k1.ensures (put_then c.variable-k2.ensures (put_then c.word-k3.ensures (put_then c.variable-k4.ensures c.word.ensures))))
