-- `narrow_row` meets its contract: one law of proofs/Rows.antt for each operator that looks at one place only.
-- Assumes nothing.
use mathlib.Core.Path.{sym, ap, ◌∙◌}
use mathlib.Core.List.{List}
use Prim.Native.Nat.{ℕ}
use borrow.Author.Rules.{rules}
use lib.ListN.{length, drop}
use lib.Seq.{length-take-le, take_at}
use Rattle.bits.specs.Row.{member}
use Rattle.table.proofs.Rows.{negation-row, conjunction-row, disjunction-row}
use Rattle.table.proofs.narrow_row.Goals as goal

pub returns-in-Negation : goal.returns-in-Negation
returns-in-Negation c =
    let w = length c.args.out.now in
    let places = take_at c.below.new.row (drop w c.blank-places.result) w (c.below.auto.row ∙ sym ((sym (length-take-le _ _ ((search rules)))))) in
    rw c.in-Negation.is (negation-row _ _ _ _ (λ s. ap (λ (l : List ℕ). member l s) places ∙ c.below.ensures s) c.difference.ensures)

pub returns-in-Conjunction : goal.returns-in-Conjunction
returns-in-Conjunction c =
    rw c.in-Conjunction.is (conjunction-row _ _ _ _ c.intersection.ensures c.requires.by_index.0)

pub returns-in-Disjunction : goal.returns-in-Disjunction
returns-in-Disjunction c =
    rw c.in-Disjunction.is (disjunction-row _ _ _ _ c.union.ensures c.requires.by_index.0 c.requires.by_index.1)
