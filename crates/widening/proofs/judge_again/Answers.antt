-- `judge_again` meets its contract. The invariant: the lines so far have their verdicts by the uses that the rows have, the others those that
-- they had. Assumes nothing.
use mathlib.Core.Path.{refl, ◌∙◌}
use Prim.Native.Nat.{◌<◌}
use native.Mathlib.Omega.{arith}
use lib.ListN.{length-set}
use Rattle.atoms.specs.Facts.{used_in}
use Rattle.marks.specs.Reading.{most}
use Rattle.published_rows.specs.Memory.{Remembers}
use Rattle.published_rows.proofs.Memory.{remembers-none}
use Rattle.widening.proofs.Again.{again-none, again-more, again-line, again-all}
use Rattle.marks.proofs.Walk.{begins-first, line_of, line-further, line-mark, line-next, line-inside, text-done}
use Rattle.verdicts.proofs.Lists.{never-misspelled, line-below}
use Rattle.widening.proofs.judge_again.Goals as goal
use Rattle.widening.proofs.judge_again.Goals.{In-Some}

pub loop-at-init : goal.loop-at-init
loop-at-init c = (
  refl,
  (λ ms t. begins-first t.spells),
  (λ P k ms t v. again-none),
  λ P k. remembers-none c.blank_keys-keys.ensures c.blank_memory-memory.ensures,
)

pub shape_of-verdicts-in_default : goal.shape_of-verdicts-in_default
shape_of-verdicts-in_default c = c.loop-at.invariant.0

pub returns-in_default : goal.returns-in_default
returns-in_default c =
    λ P k ms t v. absurd (never-misspelled (c.loop-at.invariant.1 ms t) c.loop-at-test.true c.in_default.is c.line.ensures)

-- ---- a mark is read
-- its line is one of those that there can be
below : (c : In-Some) → c.loop-at.j < most
below c =
    let list = c.requires.some_taken.0 in
    line-below (c.loop-at.invariant.1 list.ms list.taken) list.taken c.in-Some.is c.line.ensures

-- the rows that are remembered so far
remembered : (c : In-Some) → Remembers (used_in c.args.rows.now) c.requires.some_known.P c.loop-at.keys c.loop-at.memory
remembered c = c.loop-at.invariant.3 c.requires.some_known.P c.requires.some_known.known

pub bounds-verdicts-j : goal.bounds-verdicts-j
bounds-verdicts-j c = omega (arith, c.loop-at.invariant.0, c.requires.some_taken.1, below (goal.at.bounds-verdicts-j c).In-Some)

pub byte_again-requires : goal.byte_again-requires
byte_again-requires c =
    record { some_known = c.requires.some_known; valid_mark = ((line_of c.args.marks.now c.loop-at.at c.in-Some.is c.line.ensures).valid, c.loop-at.invariant.3) }

pub bounds-verdicts-j-in-loop-at : goal.bounds-verdicts-j-in-loop-at
bounds-verdicts-j-in-loop-at c = omega (arith, c.loop-at.invariant.0, c.requires.some_taken.1, below (goal.at.bounds-verdicts-j-in-loop-at c).In-Some)

pub overflow_add-j : goal.overflow_add-j
overflow_add-j c = omega (arith, below (goal.at.overflow_add-j c).In-Some)

pub loop-at-smaller : goal.loop-at-smaller
loop-at-smaller c = line-further _ _ c.in-Some.is c.line.ensures

pub loop-at-preserved : goal.loop-at-preserved
loop-at-preserved c =
    let l = c.loop-at in (
      length-set l.verdicts l.j c.byte_again.result ∙ l.invariant.0,
      (λ ms t. line-next (l.invariant.1 ms t) c.in-Some.is c.line.ensures),
      (λ P k ms t v.
          let b = l.invariant.1 ms t in
          let so = l.invariant.2 P k ms t v in
          again-more so c.byte_again.result
          (again-line so v (line-inside b c.in-Some.is c.line.ensures) c.in-Some.m (line-mark b c.in-Some.is c.line.ensures _) c.byte_again.result (c.byte_again.ensures.0 P k))
          ((omega (arith, c.loop-at.invariant.0, c.requires.some_taken.1, below (goal.at.loop-at-preserved c).In-Some)))),
      c.byte_again.ensures.1,
    )

pub shape_of-verdicts : goal.shape_of-verdicts
shape_of-verdicts c = c.loop-at.invariant.0

pub returns : goal.returns
returns c =
    λ P k ms t v. again-all (c.loop-at.invariant.2 P k ms t v) (omega (arith, text-done (c.loop-at.invariant.1 ms t) c.loop-at-test.false)) c.loop-at.invariant.0
