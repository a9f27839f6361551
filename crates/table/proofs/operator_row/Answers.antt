-- `operator_row` meets its contract: the words that n places need are lent as narrow rows, which hold all places of the operands, and the
-- words behind them have none. Assumes nothing.
use mathlib.Core.Path.{◌≡◌, sym, ap, ◌∙◌}
use mathlib.Core.Bool.{Bool, false}
use mathlib.Core.List.{List}
use Prim.Native.Nat.{ℕ, ◌+◌, ◌-◌, ◌/◌, ◌≤◌}
use native.Mathlib.Omega.{arith}
use borrow.Author.Rules.{rules}
use lib.ListN.{take}
use lib.Seq.{length-take-le}
use Rattle.bits.specs.Row.{member}
use Rattle.table.proofs.Narrow.{front-member, lent-member}
use Rattle.table.proofs.operator_row.Goals as goal

-- the words that n places need, which hold all of an operand's
abbrev needed : ℕ → ℕ
needed n = (n + 64 - 1) / 64

narrowed : (n : ℕ) (row : List ℕ) → ((s : ℕ) → n ≤ s → member row s ≡ false) → member (take (needed n) row) ≡ member row
narrowed n row = front-member (needed n) n row (omega arith)

pub narrow_row-requires-clause-by_index : goal.narrow_row-requires-clause-by_index
narrow_row-requires-clause-by_index c =
    let none = c.requires.by_index in (
      λ s h. ap (λ (f : ℕ → Bool). f s) (narrowed c.args.n c.args.p.now none.0) ∙ none.0 s h,
      λ s h. ap (λ (f : ℕ → Bool). f s) (narrowed c.args.n c.args.q.now none.1) ∙ none.1 s h,
    )

pub returns : goal.returns
returns c =
    let none = c.requires.by_index in
    let l = c.narrow_row.auto.out ∙ sym ((sym (length-take-le _ _ ((search rules))))) in
    rw (lent-member _ _ _ _ l c.clear.ensures)
    (rw (narrowed c.args.n c.args.p.now none.0, narrowed c.args.n c.args.q.now none.1) at c.narrow_row.ensures)
