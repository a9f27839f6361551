-- `fill_operator` meets its contract: the part that is lent becomes the operator's row, and all else is kept. Assumes nothing.
use mathlib.Core.Path.{ap, ◌∙◌}
use mathlib.Core.List.{List}
use Prim.Native.Nat.{ℕ}
use Rattle.bits.specs.Row.{member}
use Rattle.table.specs.Table.{part_words}
use Rattle.bits.proofs.Tables.{part_length}
use Rattle.table.proofs.Lent.{part-written}
use Rattle.table.proofs.fill_operator.Goals as goal

pub operator_row-requires-clause-by_index : goal.operator_row-requires-clause-by_index
operator_row-requires-clause-by_index c = (
  λ s h. ap (λ (r : List ℕ). member r s) c.row_of-p.ensures ∙ c.requires.by_index.0 s h,
  λ s h. ap (λ (r : List ℕ). member r s) c.row_of-q.ensures ∙ c.requires.by_index.1 s h,
)

pub returns : goal.returns
returns c = λ x e.
    let r = c.rule_of-rule.ensures x e in
    let l = c.operator_row.auto.out ∙ part_length part_words c.args.table.now c.args.k c.requires.left_lt_k.2 in
    part-written part_words c.args.table.now c.args.k c.requires.left_lt_k.2 _ _ _ l (rw (r, c.row_of-p.ensures, c.row_of-q.ensures) at c.operator_row.ensures)
