-- `or_named` meets its contract. Assumes nothing.
use mathlib.Core.Path.{refl}
use native.Mathlib.Omega.{arith}
use borrow.Author.Tests.{eq-eqb, ne_eqb}
use Rattle.start_refusal.specs.StartRefusal.{or_named}
use Rattle.start_refusal.proofs.or_named.Goals as goal

pub returns-then-n-eq1 : goal.returns-then-n-eq1
unfolding or_named
returns-then-n-eq1 c = (rw (eq-eqb _ _ c.if-n-eq1.true) (record { text = refl; after = omega arith }), omega arith)

pub returns : goal.returns
unfolding or_named
returns c = (rw (ne_eqb _ _ c.if-n-eq1.false) c.word.ensures, omega (arith, c.word.ensures.after))
