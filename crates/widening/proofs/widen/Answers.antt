-- `widen` meets its contract. The invariant: the rows are the facts by the program's uses and those that the lines so far add. Assumes nothing.
use mathlib.Core.Path.{sym, ◌∙◌}
use Prim.Native.Nat.{◌<◌}
use native.Mathlib.Omega.{arith}
use Rattle.marks.specs.Reading.{most}
use Rattle.widening.proofs.Uses.{added-valid, added_none, added-nothing, added-use, added-all}
use Rattle.marks.proofs.Walk.{begins-first, line_of, line-further, line-mark, line-next, line-inside, text-done}
use Rattle.verdicts.proofs.Lists.{never-misspelled, line-below}
use Rattle.widening.proofs.widen.Goals as goal
use Rattle.widening.proofs.widen.Goals.{In-Some, in-Some-added_by, in_default-added_by}

pub loop-at-init : goal.loop-at-init
loop-at-init c = (c.requires.1, (λ ms t. begins-first t.spells), λ P n codes flow k ms t v. added_none ms k)

pub shape_of-rows-in_default : goal.shape_of-rows-in_default
shape_of-rows-in_default c = c.loop-at.invariant.0 ∙ sym c.requires.1

pub returns-in_default : goal.returns-in_default
returns-in_default c =
    λ P n codes flow k ms t v. absurd (never-misspelled (c.loop-at.invariant.1 ms t) c.loop-at-test.true c.in_default.is c.line.ensures)

-- ---- a mark is read
-- its line is one of those that there can be
below : (c : In-Some) → c.loop-at.j < most
below c =
    let list = c.requires.0 in
    line-below (c.loop-at.invariant.1 list.ms list.taken) list.taken c.in-Some.is c.line.ensures

pub bounds-verdicts-j : goal.bounds-verdicts-j
bounds-verdicts-j c = omega (arith, below (goal.at.bounds-verdicts-j c).In-Some, c.requires.2)

pub use_also-requires : goal.use_also-requires
use_also-requires c =
    let adds = rw c.in-Some-added_by.is at c.added_by.ensures in
    (added-valid c.in-Some.m _ _ adds (line_of c.args.marks.now c.loop-at.at c.in-Some.is c.line.ensures).valid, c.place_of-place.ensures.0, c.loop-at.invariant.0)

pub overflow_add-j : goal.overflow_add-j
overflow_add-j c = omega (arith, below (goal.at.overflow_add-j c).In-Some)

pub loop-at-smaller : goal.loop-at-smaller
loop-at-smaller c = line-further _ _ c.in-Some.is c.line.ensures

pub loop-at-preserved : goal.loop-at-preserved
loop-at-preserved c =
    let l = c.loop-at in (
      c.match-added_by.auto.rows ∙ l.invariant.0,
      (λ ms t. line-next (l.invariant.1 ms t) c.in-Some.is c.line.ensures),
      λ P n codes flow k ms t v.
          let b = l.invariant.1 ms t in
          let so-far = l.invariant.2 P n codes flow k ms t v in
          let inside = line-inside b c.in-Some.is c.line.ensures in
          let mark = line-mark b c.in-Some.is c.line.ensures _ in
          elim c.match-added_by.branch [
            | in-Some-added_by w ↦ rw w.rows-is (added-use so-far inside c.args.verdicts.now v c.in-Some.m mark _ _ (rw w.in-Some-added_by.is at c.added_by.ensures) c.place_of-place.ensures.1 w.use_also.ensures)
            | in_default-added_by w ↦ rw w.rows-is (added-nothing so-far inside c.args.verdicts.now v c.in-Some.m mark (rw w.in_default-added_by.is at c.added_by.ensures))
          ],
    )

pub shape_of-rows : goal.shape_of-rows
shape_of-rows c = c.loop-at.invariant.0 ∙ sym c.requires.1

pub returns : goal.returns
returns c =
    λ P n codes flow k ms t v. added-all ms (c.loop-at.invariant.2 P n codes flow k ms t v) (omega (arith, text-done (c.loop-at.invariant.1 ms t) c.loop-at-test.false))
