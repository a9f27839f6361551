-- `pair` meets its contract: the variable and its two values. Assumes nothing.
use native.Mathlib.Omega.{arith}
use Rattle.statement_writer.proofs.Puts.{put_then}
use Rattle.comparison.specs.Lines.{pair_text}
use Rattle.comparison.proofs.pair.Goals as goal

pub variable-k2-requires : goal.variable-k2-requires
variable-k2-requires c = record { valid_variable = c.requires.valid_variable; differs_columns_in_bounds = omega (arith, c.requires.pair_room_in_bounds) }

pub spaces-k3-requires : goal.spaces-k3-requires
spaces-k3-requires c = omega (arith, c.variable-k2.ensures.1)

pub value-k4-requires : goal.value-k4-requires
value-k4-requires c = omega (arith, c.variable-k2.ensures.1)

pub spaces-k5-requires : goal.spaces-k5-requires
spaces-k5-requires c = omega (arith, c.value-k4.ensures.1, c.variable-k2.ensures.1)

pub value-requires : goal.value-requires
value-requires c = omega (arith, c.value-k4.ensures.1, c.variable-k2.ensures.1)

pub returns : goal.returns
unfolding pair_text
returns c =
    put_then c.spaces-k1.ensures (put_then c.variable-k2.ensures.0 (put_then c.spaces-k3.ensures
    (put_then c.value-k4.ensures.0 (put_then c.spaces-k5.ensures c.value.ensures.0))))
