-- `differs` meets its contract. Assumes nothing.
use mathlib.Core.Path.{◌∙◌, ap}
use mathlib.Core.List.{List}
use Prim.Native.Nat.{ℕ}
use native.Mathlib.Omega.{arith}
use borrow.Author.Tests.{eq-eqb, ne_eqb}
use Rattle.bits.specs.Row.{member}
use Rattle.bits.proofs.Tables.{part-row}
use Rattle.table.specs.Table.{part_words}
use Rattle.liveness.proofs.differs.Goals as goal

pub returns-then-a-x : goal.returns-then-a-x
returns-then-a-x c = rw (eq-eqb _ _ c.if-a-x.true)

pub returns : goal.returns
returns c =
    rw (ne_eqb _ _ c.if-a-x.false)
    (c.contains.ensures ∙ ap (λ (r : List ℕ). member r c.args.place) (part-row part_words c.args.live.now c.args.x (omega (arith, c.requires.0, c.requires.2))))
