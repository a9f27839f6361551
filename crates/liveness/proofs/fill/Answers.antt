-- `fill` meets its contract. The invariant: the rows of the variables before x are found. Assumes nothing.
use mathlib.Core.Path.{sym, ap, ◌∙◌}
use mathlib.Core.List.{List}
use Prim.Native.Nat.{ℕ}
use native.Mathlib.Omega.{arith}
use Rattle.bits.specs.Row.{member}
use Rattle.bits.proofs.Tables.{part_length}
use Rattle.atoms.proofs.Rows.{label_same}
use Rattle.table.specs.Table.{part_words}
use Rattle.table.proofs.Lent.{part-written}
use Rattle.liveness.proofs.Rows.{none_found, one_found}
use Rattle.liveness.proofs.fill.Goals as goal

pub loop-x-init : goal.loop-x-init
loop-x-init c = none_found _ c.requires.live_len

pub live_row-row-requires : goal.live_row-row-requires
live_row-row-requires c = record { some_known = c.requires.some_known; valid_variable = c.loop-x-test.true }

pub copy_from_slice-requires : goal.copy_from_slice-requires
copy_from_slice-requires c =
    part_length part_words c.loop-x.live c.loop-x.x (omega (arith, c.loop-x.invariant.size, c.loop-x-test.true)) ∙ sym c.live_row-row.ensures.0

pub loop-x-preserved : goal.loop-x-preserved
loop-x-preserved c =
    let below = c.loop-x-test.true in
    one_found c.loop-x.invariant below c.requires.some_known
    (λ P k. part-written part_words c.loop-x.live c.loop-x.x (omega (arith, c.loop-x.invariant.size)) _ _ _ (c.copy_from_slice.auto.self ∙ part_length part_words c.loop-x.live c.loop-x.x (omega (arith, c.loop-x.invariant.size))) (label_same _ _ _ _ (λ j. ap (λ (r : List ℕ). member r j) c.copy_from_slice.ensures.after) (c.live_row-row.ensures.1 P k)))

pub returns : goal.returns
returns c = λ P k x b. c.loop-x.invariant.found P k x (omega (arith, c.loop-x-test.false))
