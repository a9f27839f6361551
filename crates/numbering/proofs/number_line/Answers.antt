-- `number_line` meets its contract. The invariant: the first k parts are numbered. Assumes nothing.
use Rattle.numbering.proofs.Steps.{part-found, part-new, part-over, inside, step-usable, step-told, all-numbered, over-numbered, firsts-over}
use Rattle.numbering.specs.Numbering.{SoFar}
use Rattle.table.proofs.Whole.{held-some}
use Rattle.condition.specs.Condition.{parts}
use lib.ListN.{get_or}
use native.Mathlib.Omega.{arith}
use Prim.Native.Nat.{ℕ, ◌-◌}
use mathlib.Core.Path.{refl, ap}
use Rattle.numbering.proofs.number_line.Goals as goal
use Rattle.numbering.proofs.number_line.Goals.{At-loop-k, in-Some, in_default+else-n-ge-MOST_TABLES}

-- what is numbered at the loop's head, of the line that is known to be there
so_far : (c : At-loop-k) → SoFar c.args.text.now c.requires.ps c.requires.c c.loop-k.numbers c.loop-k.entries c.loop-k.links c.loop-k.heads c.loop-k.n c.loop-k.k
so_far c = c.loop-k.invariant c.requires.ps c.requires.c c.requires.line c.requires.sharing

pub returns-then-count-gt-MOST_TABLES : goal.returns-then-count-gt-MOST_TABLES
returns-then-count-gt-MOST_TABLES c = λ ps d x s. over-numbered (firsts-over ps (parts d) (s.over c.if-count-gt-MOST_TABLES.true)) _ c.if-count-gt-MOST_TABLES.true

pub entry_of-e-requires : goal.entry_of-e-requires
entry_of-e-requires c = step-usable c.requires.line (so_far (goal.at.entry_of-e-requires c).At-loop-k) c.loop-k-test.true

pub find-found-requires : goal.find-found-requires
find-found-requires c =
    let f = so_far (goal.at.find-found-requires c).At-loop-k in
    ((step-told c.requires.line f c.loop-k-test.true _ c.entry_of-e.ensures).1, f.store)

pub overflow_cast-numbers : goal.overflow_cast-numbers
overflow_cast-numbers c = omega (arith, (so_far (goal.at.overflow_cast-numbers c).At-loop-k).store.few, c.in-Some.ensures.inside)

pub overflow_add-result : goal.overflow_add-result
overflow_add-result c = omega (arith, (so_far (goal.at.overflow_add-result c).At-loop-k).store.few)

pub returns-then-n-ge-MOST_TABLES : goal.returns-then-n-ge-MOST_TABLES
returns-then-n-ge-MOST_TABLES c =
    λ ps d x s.
    let f = c.loop-k.invariant ps d x s in
    let l = c.loop-k-test.true in
    let key = (step-told x f l _ c.entry_of-e.ensures).0 in
    over-numbered (part-over x f (inside x f l) _ key c.in_default.ensures c.if-n-ge-MOST_TABLES.true) _ (omega arith)

pub add-requires-clause-formed : goal.add-requires-clause-formed
add-requires-clause-formed c =
    let f = so_far (goal.at.add-requires-clause-formed c).At-loop-k in
    ((step-told c.requires.line f c.loop-k-test.true _ c.entry_of-e.ensures).1, f.store)

pub loop-k-preserved : goal.loop-k-preserved
loop-k-preserved c =
    λ ps d x s.
    let f = c.loop-k.invariant ps d x s in
    let l = c.loop-k-test.true in
    let key = (step-told x f l _ c.entry_of-e.ensures).0 in
    elim c.match-found.branch [
      | in-Some w ↦ rw (w.entries-is, w.links-is, w.heads-is, w.numbers-is, w.n-is) (part-found x f (inside x f l) _ key _ w.in-Some.ensures)
      | in_default+else-n-ge-MOST_TABLES w ↦ rw (w.entries-is, w.links-is, w.heads-is, w.numbers-is, w.n-is)
          (part-new x f (inside x f l) _ key w.in_default.ensures (omega (arith, w.if-n-ge-MOST_TABLES.false)) w.add.ensures.entries_after w.add.ensures.store)
    ]

pub overflow_sub-last : goal.overflow_sub-last
overflow_sub-last c = omega (arith, held-some c.requires.line.held)

pub returns : goal.returns
returns c =
    λ ps d x s.
    let f = c.loop-k.invariant ps d x s in
    all-numbered f (omega (arith, x.held.held.counted, c.loop-k-test.false)) _ refl (ap (λ (m : ℕ). get_or c.loop-k.numbers (m - 1) 0) x.held.held.counted)
