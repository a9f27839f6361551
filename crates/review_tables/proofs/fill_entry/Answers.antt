-- `fill_entry` meets its contract. Assumes nothing.
use Rattle.review_tables.proofs.Entries.{entry-operands, left-clear, right-clear, operator-written, atom-written}
use native.Mathlib.Omega.{arith}
use Rattle.review_tables.proofs.fill_entry.Goals as goal

pub fill_operator-requires-clause-left_lt_k : goal.fill_operator-requires-clause-left_lt_k
fill_operator-requires-clause-left_lt_k c =
    let r = c.requires.ready in
    let o = entry-operands r c.if-code-eq0.false in
    (o.left, o.right, r.room)

pub fill_operator-requires-clause-by_index : goal.fill_operator-requires-clause-by_index
fill_operator-requires-clause-by_index c =
    let r = c.requires.ready in
    let size = r.known.size in
    let code = c.if-code-eq0.false in
    ((λ s h. left-clear r code s (omega arith)), (λ s h. right-clear r code s (omega arith)))

pub returns-then-code-eq0 : goal.returns-then-code-eq0
returns-then-code-eq0 c = λ P ds r. atom-written r _ c.if-code-eq0.true c.fill_atom.ensures

pub returns-else-code-eq0 : goal.returns-else-code-eq0
returns-else-code-eq0 c = λ P ds r. operator-written r c.if-code-eq0.false _ c.fill_operator.ensures
