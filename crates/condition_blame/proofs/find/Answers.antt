-- `find` meets its contract. The invariant: what the search finds from here is what it finds in all. Assumes nothing.
use mathlib.Core.Path.{refl, ◌∙◌}
use Prim.Native.Nat.{◌+◌}
use Rattle.std.proofs.lemmas.List.{drop-drop}
use Rattle.condition_blame.specs.Search.{row_in}
use lib.ListN.{drop, drop_of_length-le}
use Rattle.condition_blame.proofs.Search.{rest-all, row-found, row_next}
use Rattle.condition_blame.proofs.find.Goals as goal

pub returns-then-starts_with-clause-some : goal.returns-then-starts_with-clause-some
returns-then-starts_with-clause-some c =
    let t = c.args.table.now in
    c.loop-k.invariant ∙ row-found (drop c.loop-k.k t) c.args.i c.args.c _ (rw (rest-all t c.loop-k.k) at c.starts_with.ensures.value) c.if-starts_with.true ∙ rw (c.first_line.ensures, rest-all t (c.loop-k.k + 3), drop-drop 3 c.loop-k.k t)

pub loop-k-preserved : goal.loop-k-preserved
loop-k-preserved c =
    let t = c.args.table.now in
    c.loop-k.invariant ∙ row_next (drop c.loop-k.k t) c.args.i c.args.c _ (rw (rest-all t c.loop-k.k) at c.starts_with.ensures.value) c.if-starts_with.false ∙ rw (drop-drop 1 c.loop-k.k t)

pub returns-clause-absent : goal.returns-clause-absent
unfolding row_in
returns-clause-absent c = c.loop-k.invariant ∙ rw (drop_of_length-le c.args.table.now {i = c.loop-k.k} c.loop-k-test.false) refl
