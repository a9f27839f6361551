-- The first line, what is wrong, and byte 10.
use native.Mathlib.Omega.{arith}
use Rattle.statement_writer.proofs.Puts.{put_then}
use Rattle.start_refusal.specs.StartRefusal.{start_text}
use Rattle.start_refusal.proofs.write.Goals as goal

pub returns-in-Some : goal.returns-in-Some
unfolding start_text
returns-in-Some c =
    rw c.in-Some.is (put_then c.word-k1.ensures (put_then c.words-k2.ensures.0 c.byte.ensures), omega (arith, c.word-k1.ensures.after, c.words-k2.ensures.1, c.byte.ensures.after))

pub returns-in-None : goal.returns-in-None
returns-in-None c =
    rw c.in-None.is (put_then c.word-k1.ensures c.byte-in-None.ensures, omega (arith, c.word-k1.ensures.after, c.byte-in-None.ensures.after))
