use mathlib.Core.Path.{refl, sym, ◌∙◌}
use Prim.Native.Nat.{◌<◌}
use native.Mathlib.Omega.{arith}
use lib.ListN.{length-set}
use Rattle.atoms.specs.Facts.{used_in}
use Rattle.table.proofs.By.{known_in}
use Rattle.published_rows.proofs.Memory.{remembers-none}
use Rattle.verdicts.proofs.Marks.{statement-at}
use Rattle.verdicts.proofs.Lists.{judged-none, never-misspelled, line-below, judged-more, judged-all}
use Rattle.published_rows.specs.Memory.{Remembers}
use Rattle.marks.proofs.Walk.{line_of, line-further}
use Rattle.marks.specs.Reading.{most}
use Rattle.program.specs.Reading.{statements}
use Rattle.verdicts.proofs.judge.Goals as goal
use Rattle.verdicts.proofs.judge.Goals.{In-Some}

pub loop-at-init : goal.loop-at-init
loop-at-init c = (
  refl,
  omega (arith, c.clear.auto.row, c.blank_row-named.ensures.size),
  (λ ms t. judged-none _ t.spells c.clear.ensures),
  λ P k. remembers-none c.blank_keys-keys.ensures c.blank_memory-memory.ensures,
)

pub returns-in_default : goal.returns-in_default
returns-in_default c =
    λ ms t. absurd (never-misspelled (c.loop-at.invariant.2 ms t).begins c.loop-at-test.true c.in_default.is c.line.ensures)

-- ---- a mark is read

-- its line is one of those that there can be
below : (c : In-Some) → c.loop-at.j < most
below c =
    let list = c.requires.some_taken.0 in
    line-below (c.loop-at.invariant.2 list.ms list.taken).begins list.taken c.in-Some.is c.line.ensures

-- the rows that are remembered so far
remembered : (c : In-Some) → Remembers (used_in c.args.rows.now) (statements c.args.p) c.loop-at.keys c.loop-at.memory
remembered c = c.loop-at.invariant.3 _ (known_in c.requires.held.1)

pub slice_bounds-verdict_of-end-in-loop-at : goal.slice_bounds-verdict_of-end-in-loop-at
slice_bounds-verdict_of-end-in-loop-at c = omega (arith, (remembered (goal.at.slice_bounds-verdict_of-end-in-loop-at c).In-Some).many_keys)

pub slice_bounds-verdict_of-end-in-loop-at-2 : goal.slice_bounds-verdict_of-end-in-loop-at-2
slice_bounds-verdict_of-end-in-loop-at-2 c = omega (arith, (remembered (goal.at.slice_bounds-verdict_of-end-in-loop-at-2 c).In-Some).many_rows)

pub verdict_of-v-requires : goal.verdict_of-v-requires
verdict_of-v-requires c =
    record {
      some_known = record { P = statements c.args.p; known = known_in c.requires.held.1 };
      valid_mark = ((line_of c.args.marks.now c.loop-at.at c.in-Some.is c.line.ensures).valid, c.loop-at.invariant.1);
      remembering = c.loop-at.invariant.3;
    }

pub bounds-verdicts-j : goal.bounds-verdicts-j
bounds-verdicts-j c =
    omega (arith, c.loop-at.invariant.0, c.requires.some_taken.1, below (goal.at.bounds-verdicts-j c).In-Some)

pub overflow_add-j : goal.overflow_add-j
overflow_add-j c = omega (arith, below (goal.at.overflow_add-j c).In-Some)

pub loop-at-smaller : goal.loop-at-smaller
loop-at-smaller c = line-further _ _ c.in-Some.is c.line.ensures

pub loop-at-preserved : goal.loop-at-preserved
loop-at-preserved c =
    let l = c.loop-at in
    let b = c.from-b in
    let k = c.requires.held in (
      length-set l.verdicts l.j b.result ∙ l.invariant.0,
      omega (arith, c.note.auto, l.invariant.1),
      (λ ms t.
          judged-more (l.invariant.2 ms t) c.in-Some.is c.line.ensures c.verdict_of-v.result _ b.ensures
          (λ earlier g. c.verdict_of-v.ensures.0 _ k.1 earlier (λ i. statement-at _ k.0 c.in-Some.m _ c.place_of-place.ensures.1 i ∙ sym c.statement_of-i.ensures) g)
          (λ s. c.note.ensures _ k.1.few s) _ c.is_reuse-reused.ensures ((omega (arith, l.invariant.0, c.requires.some_taken.1, below (goal.at.loop-at-preserved c).In-Some)))),
      c.verdict_of-v.ensures.1,
    )

pub shape_of-verdicts : goal.shape_of-verdicts
shape_of-verdicts c = c.loop-at.invariant.0

pub returns : goal.returns
returns c = λ ms t. judged-all (c.loop-at.invariant.2 ms t) c.loop-at-test.false c.loop-at.invariant.0
