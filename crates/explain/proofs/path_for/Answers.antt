-- `explain::path_for` meets its contract: each direction is lent as its part of the numbers. Assumes nothing.
use Rattle.table.proofs.Parts.{forward-size, backward-part, lent-ahead, lent-behind}
use native.Mathlib.Omega.{arith}
use mathlib.Core.Path.{sym, ◌∙◌}
use Rattle.explain.proofs.path_for.Goals as goal

pub slice_bounds-forward-end : goal.slice_bounds-forward-end
slice_bounds-forward-end c = sym (forward-size c.args.flow.now c.requires.both_ways.0.size)

pub slice_bounds-backward-count : goal.slice_bounds-backward-count
slice_bounds-backward-count c = omega (arith, c.requires.both_ways.0.size)

pub witness-requires : goal.witness-requires
witness-requires c =
    let b = c.requires.both_ways.0 in
    let z = c.requires.p_len in
    let h = rw c.if-back.true at c.requires.s_lt_n in record {
      directions_at = lent-behind _ c.args.flow.now b;
      lent = (
        record {
          room = c.requires.both_ways.1;
          of_p = z.0 ∙ sym z.2;
          of_q = z.1 ∙ sym z.2;
          of_places = c.blank_row-places.ensures.size ∙ sym z.2;
          of_first = c.blank_row-first.ensures.size ∙ sym z.2;
          of_second = c.blank_row-second.ensures.size ∙ sym z.2;
          of_spare = c.blank_row-spare.ensures.size ∙ sym z.2;
        },
        c.requires.both_ways.2,
      );
      s_lt_n = (h.0, h.1, rw (backward-part c.args.flow.now b.size) h.2);
    }

pub returns-then-back : goal.returns-then-back
returns-then-back c = rw c.if-back.true (rw (backward-part c.args.flow.now c.requires.both_ways.0.size) at c.witness.ensures)

pub witness-requires-2 : goal.witness-requires-2
witness-requires-2 c =
    let b = c.requires.both_ways.0 in
    let z = c.requires.p_len in record {
      directions_at = lent-ahead _ c.args.flow.now b;
      lent = (
        record {
          room = c.requires.both_ways.1;
          of_p = z.0 ∙ sym z.2;
          of_q = z.1 ∙ sym z.2;
          of_places = c.blank_row-places.ensures.size ∙ sym z.2;
          of_first = c.blank_row-first.ensures.size ∙ sym z.2;
          of_second = c.blank_row-second.ensures.size ∙ sym z.2;
          of_spare = c.blank_row-spare.ensures.size ∙ sym z.2;
        },
        c.requires.both_ways.2,
      );
      s_lt_n = rw c.if-back.false at c.requires.s_lt_n;
    }

pub returns : goal.returns
returns c = rw c.if-back.false c.witness-2.ensures
