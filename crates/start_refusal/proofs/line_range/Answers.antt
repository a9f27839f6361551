-- `line_range` meets its contract. Assumes nothing.
use native.Mathlib.Omega.{arith}
use borrow.Author.Tests.{eq-eqb, ne_eqb}
use Rattle.statement_writer.proofs.Puts.{put_then}
use Rattle.start_refusal.specs.StartRefusal.{line_range}
use Rattle.start_refusal.proofs.line_range.Goals as goal

pub returns-then-n-eq2 : goal.returns-then-n-eq2
unfolding line_range
returns-then-n-eq2 c =
    (rw (eq-eqb _ _ c.if-n-eq2.true) c.word.ensures, omega (arith, c.word.ensures.after))

pub returns : goal.returns
unfolding line_range
returns c =
    (rw (ne_eqb _ _ c.if-n-eq2.false) (put_then c.word-k.ensures c.or_named.ensures.0), omega (arith, c.word-k.ensures.after, c.or_named.ensures.1))
