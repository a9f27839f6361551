use mathlib.Core.Path.{◌∙◌}
use Prim.Native.Nat.{◌≤◌, ◌<◌}
use native.Mathlib.Omega.{arith}
use lib.ListN.{length, length-set}
use Rattle.program.specs.Program.{most}
use Rattle.program.specs.Reading.{statements}
use Rattle.marks.specs.Reading as marks
use Rattle.marks.proofs.Walk.{line-further}
use Rattle.verdicts.proofs.Lists.{never-misspelled, line-below}
use Rattle.verdicts.proofs.Made.{InsideOf, made_none, made-less, accepted-inside, made_more, accepted-few, verdicts-same, held-few, made_all, counted-all}
use Rattle.verdicts.proofs.rewrite.Goals as goal
use Rattle.verdicts.proofs.rewrite.Goals.{In-Some, Then-verdicts-j-eq0, then-verdicts-j-eq0, else-verdicts-j-eq0}

pub loop-at-init : goal.loop-at-init
loop-at-init c = (c.requires.held.room, λ ms t. made_none t.spells)

pub returns-in_default : goal.returns-in_default
returns-in_default c =
    λ ms t. absurd (never-misspelled (c.loop-at.invariant.1 ms t).begins c.loop-at-test.true c.in_default.is c.line.ensures)

-- ---- a mark is read

-- its line is one of at most `marks.most`
below : (c : In-Some) → c.loop-at.j < marks.most
below c =
    let list = c.requires.some_judged in
    line-below (c.loop-at.invariant.1 list.ms list.taken).begins list.taken c.in-Some.is c.line.ensures

few : (c : In-Some) → c.loop-at.accepted ≤ c.loop-at.j
few c = let list = c.requires.some_judged in accepted-few (c.loop-at.invariant.1 list.ms list.taken)

-- the given program has room in the entries
room : (c : In-Some) → length (statements c.args.p) ≤ most
room c = held-few c.requires.held

room-on : (c : In-Some) → length (statements c.args.p) ≤ length c.loop-at.entries
room-on c = omega (arith, room c, c.loop-at.invariant.0)

-- where it is accepted, its statement is one of the program's
inside : (c : Then-verdicts-j-eq0) → length (statements c.args.p) ≤ length c.loop-at.entries → InsideOf (statements c.args.p) c.in-Some.m
inside c fits =
    let list = c.requires.some_judged in
    accepted-inside (c.loop-at.invariant.1 list.ms list.taken) c.in-Some.is c.line.ensures _ list.judged fits c.if-verdicts-j-eq0.true

pub bounds-verdicts-j : goal.bounds-verdicts-j
bounds-verdicts-j c = omega (arith, c.requires.some_judged.room, below (goal.at.bounds-verdicts-j c).In-Some)

pub overflow_sub-place : goal.overflow_sub-place
overflow_sub-place c =
    let to = goal.at.overflow_sub-place c in
    omega (arith, c.statement_of-n.ensures, inside to.Then-verdicts-j-eq0 (room-on to.In-Some))

pub bounds-p-place : goal.bounds-p-place
bounds-p-place c =
    let to = goal.at.bounds-p-place c in
    omega (arith, c.statement_of-n.ensures, room to.In-Some, inside to.Then-verdicts-j-eq0 (room-on to.In-Some))

pub bounds-entries-place : goal.bounds-entries-place
bounds-entries-place c =
    let to = goal.at.bounds-entries-place c in
    omega (arith, c.statement_of-n.ensures, room to.In-Some, inside to.Then-verdicts-j-eq0 (room-on to.In-Some))

pub overflow_add-accepted : goal.overflow_add-accepted
overflow_add-accepted c = let to = (goal.at.overflow_add-accepted c).In-Some in omega (arith, few to, below to)

pub overflow_add-j : goal.overflow_add-j
overflow_add-j c = omega (arith, below (goal.at.overflow_add-j c).In-Some)

pub loop-at-smaller : goal.loop-at-smaller
loop-at-smaller c = line-further _ _ c.in-Some.is c.line.ensures

pub loop-at-preserved : goal.loop-at-preserved
loop-at-preserved c =
    let l = c.loop-at in
    let fits = room-on (goal.at.loop-at-preserved c).In-Some in
    elim c.if-verdicts-j-eq0.branch [
      | then-verdicts-j-eq0 w ↦ rw (w.entries-is, w.accepted-is) (
        length-set l.entries _ _ ∙ l.invariant.0,
        λ ms t. made_more (l.invariant.1 ms t) c.in-Some.is c.line.ensures (statements c.args.p) (verdicts-same c.requires.some_judged t)
            fits w.if-verdicts-j-eq0.true _ w.statement_of-n.ensures _ (w.entry_of.ensures ∙ (rw w.statement_of-i.ensures at w.makes.ensures)),
      )
      | else-verdicts-j-eq0 w ↦ rw (w.entries-is, w.accepted-is) (l.invariant.0, λ ms t. made-less (l.invariant.1 ms t) c.in-Some.is c.line.ensures w.if-verdicts-j-eq0.false)
    ]

pub returns : goal.returns
returns c =
    let h = c.requires.held in
    λ ms t.
    let judged = verdicts-same c.requires.some_judged t in
    record {
      held = record { room = c.loop-at.invariant.0; few = h.few };
      rewritten = made_all c.args.p h _ (c.loop-at.invariant.1 ms t) c.loop-at-test.false c.loop-at.invariant.0 judged;
      counted = counted-all c.args.p h _ (c.loop-at.invariant.1 ms t) c.loop-at-test.false c.loop-at.invariant.0 judged;
    }
