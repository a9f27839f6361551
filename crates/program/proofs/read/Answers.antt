-- `read` meets its contract: at each return the tests on the way are those of the refusal that is answered. The invariants: the lines are
-- kept and counted, and the statements before the place stand where they may, then aim where they may. Assumes nothing.
use Rattle.language.specs.declared.Statement.{Statement}
use mathlib.Core.List.{List}
use Prim.Native.Nat.{ℕ, ◌+◌, ◌≤◌}
use native.Mathlib.Omega.{arith}
use borrow.Author.Count.{below_none}
use lib.ListN.{length}
use Rattle.encoding.specs.declared.Entry.{Entry}
use Rattle.program.specs.Program.{InPlace}
use Rattle.base.proofs.Decides.{decided-true, decided-false}
use Rattle.program.proofs.Held.{SoFar, so_far_more, each_holds, each-fails}
use Rattle.program.proofs.Texts.{count-refused, place-refused, target-refused, lines-taken}
use Rattle.program.proofs.read.Goals as goal
use Rattle.program.proofs.read.Invariants.{Inv, Aims}

module _ {Q : ℕ → ℕ → Statement → Type 0} {t : List ℕ} {es : List Entry} {n s : ℕ} (i : Inv Q t es n s) where
  fits : n ≤ length es
  fits = omega arith

  more : s + 1 ≤ n → SoFar Q es n (s + 1) → Inv Q t es n (s + 1)
  more h f = record { lines = i.lines; room = i.room; low = i.low; high = i.high; so_far = f; within = h }

pub returns-in_default : goal.returns-in_default
returns-in_default c = rw c.in_default.is at c.read_lines.ensures

pub returns-then-count-lt-FEWEST : goal.returns-then-count-lt-FEWEST
returns-then-count-lt-FEWEST c = count-refused (rw c.in-Some.is at c.read_lines.ensures) (λ l h. omega arith)

pub returns-then-count-gt-MOST : goal.returns-then-count-gt-MOST
returns-then-count-gt-MOST c = count-refused (rw c.in-Some.is at c.read_lines.ensures) (λ l h. omega arith)

pub loop-i-init : goal.loop-i-init
loop-i-init c =
    let k = rw c.in-Some.is at c.read_lines.ensures in
    record { lines = k; room = k.room; low = c.if-count-lt-FEWEST.false; high = c.if-count-gt-MOST.false; so_far = below_none _; within = omega arith }

pub returns-then-not-in_place : goal.returns-then-not-in_place
returns-then-not-in_place c =
    let misplaced = each-fails InPlace _ _ (fits c.loop-i.invariant) c.loop-i.i c.loop-i-test.true (decided-false c.in_place.result c.if-not-in_place.true (rw c.statement_of-t.ensures at c.in_place.ensures)) in
    place-refused c.loop-i.invariant.lines c.loop-i.invariant.low c.loop-i.invariant.high misplaced

pub loop-i-preserved : goal.loop-i-preserved
loop-i-preserved c =
    more c.loop-i.invariant (omega arith) (so_far_more InPlace _ _ (fits c.loop-i.invariant) c.loop-i.i c.loop-i-test.true c.loop-i.invariant.so_far (decided-true c.in_place.result c.if-not-in_place.false (rw c.statement_of-t.ensures at c.in_place.ensures)))

pub loop-j-init : goal.loop-j-init
loop-j-init c = (
  record { lines = c.loop-i.invariant.lines; room = c.loop-i.invariant.room; low = c.loop-i.invariant.low; high = c.loop-i.invariant.high; so_far = below_none _; within = omega arith },
  each_holds InPlace _ _ (fits c.loop-i.invariant) c.loop-i.i c.loop-i-test.false c.loop-i.invariant.so_far,
)

pub returns-then-not-is_aimed : goal.returns-then-not-is_aimed
returns-then-not-is_aimed c =
    let beside = each-fails Aims _ _ (fits c.loop-j.invariant.0) c.loop-j.j c.loop-j-test.true (decided-false c.is_aimed.result c.if-not-is_aimed.true (rw c.statement_of-t-in-loop-j.ensures at c.is_aimed.ensures)) in
    target-refused c.loop-j.invariant.0.lines c.loop-j.invariant.0.low c.loop-j.invariant.0.high c.loop-j.invariant.1 beside

pub loop-j-preserved : goal.loop-j-preserved
loop-j-preserved c = (
  more c.loop-j.invariant.0 (omega arith) (so_far_more Aims _ _ (fits c.loop-j.invariant.0) c.loop-j.j c.loop-j-test.true c.loop-j.invariant.0.so_far (decided-true c.is_aimed.result c.if-not-is_aimed.false (rw c.statement_of-t-in-loop-j.ensures at c.is_aimed.ensures))),
  c.loop-j.invariant.1,
)

pub returns : goal.returns
returns c =
    let aimed = each_holds Aims _ _ (fits c.loop-j.invariant.0) c.loop-j.j c.loop-j-test.false c.loop-j.invariant.0.so_far in
    (lines-taken c.loop-j.invariant.0.lines c.loop-j.invariant.0.low c.loop-j.invariant.0.high c.loop-j.invariant.1 aimed, record { room = c.loop-j.invariant.0.room; few = c.loop-j.invariant.0.high })
