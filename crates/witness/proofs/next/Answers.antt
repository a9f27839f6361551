-- `witness::next` meets its contract: two words. Assumes nothing.
use Rattle.walks.proofs.Steps.{told_none, told_more}
use native.Mathlib.Omega.{arith}
use mathlib.Core.List.{[], ◌∷◌}
use mathlib.Core.Path.{refl, sym}
use Rattle.witness.proofs.next.Goals as goal

pub onward-u-requires : goal.onward-u-requires
onward-u-requires c = let d = c.requires.by_index.0.1.directions in rw (c.of-steps.ensures.head, c.of-steps.ensures.link, c.of-steps.ensures.to) (record { linked = (d.forth, omega (arith, d.head_size, c.requires.s_lt_n.0), omega (arith, d.head_size, c.requires.by_index.1)); by_index = c.requires.s_lt_n.1 })

pub overflow_add-path-2 : goal.overflow_add-path-2
overflow_add-path-2 c = let d = c.requires.by_index.0.1.directions in omega (arith, d.few, d.graph.inside c.args.s c.onward-u.result c.requires.s_lt_n.0 (rw (c.of-steps.ensures.head, c.of-steps.ensures.link, c.of-steps.ensures.to) at c.onward-u.ensures).0)

pub overflow_cast-path-2 : goal.overflow_cast-path-2
overflow_cast-path-2 c = let d = c.requires.by_index.0.1.directions in omega (arith, d.few, d.graph.inside c.args.s c.onward-u.result c.requires.s_lt_n.0 (rw (c.of-steps.ensures.head, c.of-steps.ensures.link, c.of-steps.ensures.to) at c.onward-u.ensures).0)

pub returns : goal.returns
returns c =
    let w = c.args.path.now in
    let one = told_more 0 [] w w (told_none 0 w) c.args.s 0 refl (omega (arith, c.requires.by_index.2.two)) in
    record {
      u = c.onward-u.result;
      goes = (rw (c.of-steps.ensures.head, c.of-steps.ensures.link, c.of-steps.ensures.to) at c.onward-u.ensures).0;
      free = (rw (c.of-steps.ensures.head, c.of-steps.ensures.link, c.of-steps.ensures.to) at c.onward-u.ensures).1;
      told = told_more 0 (c.args.s ∷ []) w _ one c.onward-u.result 1 refl (omega (arith, c.requires.by_index.2.two));
      counted = refl;
      straight = refl;
    }
