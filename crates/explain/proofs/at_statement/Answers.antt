-- `explain::at_statement` meets its contract: no such part or statement, or the part by the table. Assumes nothing.
use Rattle.explain.proofs.Answers.{missing, answers}
use Rattle.explain.specs.Parts.{Tabled}
use Rattle.table.proofs.Whole.{held-few}
use Rattle.program.specs.Reading.{statements}
use Rattle.flow.proofs.Successors.{statements-size}
use native.Mathlib.Omega.{arith}
use mathlib.Core.Path.{refl, ◌∙◌}
use Rattle.explain.proofs.at_statement.Goals as goal

pub returns-then-part-parts : goal.returns-then-part-parts
returns-then-part-parts c = λ t d taken held. missing _ _ _ _ _ _ _ d (record { room = c.requires.path_words_in_bounds; program = taken; condition = held.taken }) (λ h. omega (arith, h.0, held.held.counted, c.if-part-parts.true)) refl

pub returns-then-place-eq0 : goal.returns-then-place-eq0
returns-then-place-eq0 c = λ t d taken held. missing _ _ _ _ _ _ _ d (record { room = c.requires.path_words_in_bounds; program = taken; condition = held.taken }) (λ h. omega (arith, h.1, c.if-place-eq0.true)) refl

pub returns-then-place-n : goal.returns-then-place-n
returns-then-place-n c = λ t d taken held. missing _ _ _ _ _ _ _ d (record { room = c.requires.path_words_in_bounds; program = taken; condition = held.taken }) (λ h. omega (arith, h.2, statements-size _ c.requires.held.0, c.if-place-n.true)) refl

pub fill-requires : goal.fill-requires
fill-requires c = record { held = c.requires.held; some_held = c.requires.some_held; flow_len = (c.blank-flow.ensures.size, omega (arith, c.blank_table-table.ensures.size)) }

pub part_at-requires : goal.part_at-requires
part_at-requires c =
    let h = c.requires.some_held in
    let size = statements-size _ c.requires.held.0 in
    record {
      some_tabled = (
        record {
          P = statements c.args.p;
          u = _;
          c = h.c;
          tabled = record { size = size; few = omega (arith, size, c.requires.held.0.few); held = h.held; flow_size = c.fill.auto.flow ∙ c.blank-flow.ensures.size; flows = c.fill.ensures.flows; old = _; filled = c.fill.ensures.table h.c h.held };
        },
        c.if-part-parts.false,
        omega (arith, c.if-place-n.false, c.if-place-eq0.false),
      );
      parts_in_bounds = (
        omega (arith, held-few h.held, c.fill.auto.table, c.blank_table-table.ensures.size),
        record { each = omega (arith, c.requires.path_words_in_bounds, c.requires.held.0.few); two = omega (arith, c.requires.path_words_in_bounds) },
      );
    }

pub returns : goal.returns
returns c =
    let size = statements-size _ c.requires.held.0 in
    λ t d taken held.
    let filled = c.fill.ensures.table d held in
    let tabled : Tabled (statements c.args.p) _ d _ _ _ _ _ = record { size = size; few = omega (arith, size, c.requires.held.0.few); held = held; flow_size = c.fill.auto.flow ∙ c.blank-flow.ensures.size; flows = c.fill.ensures.flows; old = _; filled = filled } in
    answers _ _ c.args.part c.args.statement c.args.path.now c.part_at.new.path (statements c.args.p) d (record { room = c.requires.path_words_in_bounds; program = taken; condition = held.taken })
    (omega (arith, held.held.counted, c.if-part-parts.false), omega (arith, c.if-place-eq0.false), omega (arith, size, c.if-place-n.false)) c.contains-truth.result
    (rw (c.contains-truth.ensures, c.row_of-row.ensures) ((filled.rows c.args.part (omega (arith, held.held.counted, c.if-part-parts.false))).exact _ (omega (arith, size, c.if-place-n.false, c.if-place-eq0.false)))) c.part_at.result
    (c.part_at.ensures _ _ d tabled)
