-- `difference` meets its contract: nothing where the values are the same, else both. Assumes nothing.
use mathlib.Core.Path.{refl}
use native.Mathlib.Omega.{arith}
use borrow.Author.Tests.{eq-eqb, ne_eqb}
use Rattle.comparison.specs.Lines.{difference}
use Rattle.comparison.proofs.difference.Goals as goal

pub returns-then-a-x : goal.returns-then-a-x
unfolding difference
returns-then-a-x c = rw (eq-eqb _ _ c.if-a-x.true) (record { text = refl; after = omega arith })

pub pair-requires : goal.pair-requires
pair-requires c =
    record { valid_variable = c.requires.x_lt_variables; pair_room_in_bounds = c.requires.pair_room_in_bounds }

pub returns : goal.returns
unfolding difference
returns c = rw (ne_eqb _ _ c.if-a-x.false) c.pair.ensures
