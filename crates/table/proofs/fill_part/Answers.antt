-- `fill_part` meets its contract. Assumes nothing.
use mathlib.Core.Path.{ap, ◌∙◌}
use Prim.Native.Nat.{ℕ, ◌<◌}
use native.Mathlib.Omega.{arith}
use Rattle.bits.specs.Row.{member}
use Rattle.table.specs.Table.{row}
use Rattle.table.specs.Fill.{left_of}
use Rattle.table.proofs.Parts.{left-inside, left-clear, before-clear, operator-written, atom-written, both_ways}
use Rattle.table.proofs.fill_part.Goals as goal
use Rattle.table.proofs.fill_part.Goals.{Else-code-eq0}

-- the part of an operator's left operand lies before
inside : (c : Else-code-eq0) → left_of c.args.w c.args.k < c.args.k
inside c = left-inside c.requires.ready c.if-code-eq0.false

pub left_of-left-requires : goal.left_of-left-requires
left_of-left-requires c = omega (arith, inside (goal.at.left_of-left-requires c).Else-code-eq0)

pub overflow_sub-k : goal.overflow_sub-k
overflow_sub-k c = omega (arith, inside (goal.at.overflow_sub-k c).Else-code-eq0)

pub fill_operator-requires : goal.fill_operator-requires
fill_operator-requires c =
    let r = c.requires.ready in
    let size = r.known.size in
    record {
      both_ways = (both_ways r.known, omega (arith, r.known.few));
      left_lt_k = (rw (← c.left_of-left.ensures) at (inside (goal.at.fill_operator-requires c).Else-code-eq0), omega (arith, inside (goal.at.fill_operator-requires c).Else-code-eq0), r.room);
      by_index = (
        (λ s h. ap (λ (j : ℕ). member (row c.args.table.now j) s) c.left_of-left.ensures ∙ left-clear r c.if-code-eq0.false s (omega arith)),
        (λ s h. before-clear r c.if-code-eq0.false s (omega arith)),
      );
    }

pub returns-then-code-eq0 : goal.returns-then-code-eq0
returns-then-code-eq0 c = λ P d r. atom-written r _ c.if-code-eq0.true c.fill_atom.ensures

pub returns-else-code-eq0 : goal.returns-else-code-eq0
returns-else-code-eq0 c = λ P d r. operator-written r c.if-code-eq0.false _ _ c.left_of-left.ensures c.fill_operator.ensures
