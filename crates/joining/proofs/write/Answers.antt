-- `write` meets its contract. The invariants: the road's lines before place s are written; the creeper's before place k follow. Assumes nothing.
use mathlib.Core.Path.{◌≡◌, refl, ◌∙◌}
use mathlib.Core.List.{List}
use Prim.Native.Nat.{ℕ, ◌+◌, ◌-◌, ◌≤◌}
use native.Mathlib.Omega.{arith}
use lib.ListN.{length}
use Rattle.program.specs.Program.{most, WellFormed}
use Rattle.program.specs.Reading.{statements, Held}
use Rattle.program.specs.declared.Program.{Program}
use Rattle.joining.specs.Joining.{joined}
use Rattle.joining.proofs.Written.{Written, written_none, written-length, written-more, written_all, line_room, Behind, behind-none, behind_more, held-size, size, creeper-targets, road-line, seam-line, creeper-lines}
use Rattle.joining.proofs.write.Goals as goal
use Rattle.joining.proofs.write.Goals.{After-loop-s, After-line-at-2}

-- both programs have two statements or more and fit together, and both arrays are whole
record Sizes (road creeper : Program) : Type 0 where
  first : 2 ≤ road.count
  second : 2 ≤ creeper.count
  together : road.count + creeper.count ≤ most + 1
  whole : length (joined (statements road) (statements creeper)) ≡ road.count - 1 + creeper.count

sizes : {road creeper : Program} → Held road × WellFormed (statements road) → Held creeper × WellFormed (statements creeper) → road.count + creeper.count ≤ most + 1 → Sizes road creeper
sizes h k m =
    record {
      first = omega (arith, h.1.counted.0, held-size h.0);
      second = omega (arith, k.1.counted.0, held-size k.0);
      together = m;
      whole = size h.0 h.1 k.0 k.1;
    }

-- ---- the road's lines
pub overflow_sub-last : goal.overflow_sub-last
overflow_sub-last c = let s = sizes c.requires.held c.requires.held_2 c.requires.count_bound in omega arith

pub loop-s-init : goal.loop-s-init
loop-s-init c = written_none c.requires.creeper_in_bounds

pub offset_bounds-road-s : goal.offset_bounds-road-s
offset_bounds-road-s c = let s = sizes c.requires.held c.requires.held_2 c.requires.count_bound in omega arith

pub bounds-road-s : goal.bounds-road-s
bounds-road-s c = let s = sizes c.requires.held c.requires.held_2 c.requires.count_bound in omega arith

pub line-at-requires : goal.line-at-requires
line-at-requires c =
    let s = sizes c.requires.held c.requires.held_2 c.requires.count_bound in
    let l = c.loop-s-test.true in
    line_room c.loop-s.invariant (omega arith) _ (c.statement_of-i.ensures ∙ road-line c.requires.held.0 c.requires.held.1 c.requires.held_2.0 c.requires.held_2.1 c.loop-s.s l)

pub loop-s-preserved : goal.loop-s-preserved
loop-s-preserved c =
    let s = sizes c.requires.held c.requires.held_2 c.requires.count_bound in
    let l = c.loop-s-test.true in
    written-more c.loop-s.invariant (omega arith) _ (c.statement_of-i.ensures ∙ road-line c.requires.held.0 c.requires.held.1 c.requires.held_2.0 c.requires.held_2.1 c.loop-s.s l) c.line-at.ensures

-- ---- the seam
pub offset_bounds-road-last : goal.offset_bounds-road-last
offset_bounds-road-last c = let s = sizes c.requires.held c.requires.held_2 c.requires.count_bound in omega arith

pub bounds-road-last : goal.bounds-road-last
bounds-road-last c = let s = sizes c.requires.held c.requires.held_2 c.requires.count_bound in omega arith

-- all lines of the road but the last are written
before-seam : (c : After-loop-s) → Written (joined (statements c.args.road) (statements c.args.creeper)) c.args.out.now c.loop-s.out c.loop-s.at (c.args.road.count - 1)
before-seam c = let e : c.loop-s.s ≡ c.args.road.count - 1 = omega (arith, c.loop-s.auto.s-end) in rw e at c.loop-s.invariant

pub line-at-requires-2 : goal.line-at-requires-2
line-at-requires-2 c =
    let s = sizes c.requires.held c.requires.held_2 c.requires.count_bound in
    line_room (before-seam (goal.at.line-at-requires-2 c).After-loop-s) (omega arith) _
    (seam-line c.requires.held.0 c.requires.held.1 c.requires.held_2.0 c.requires.held_2.1 refl _ _ (rw c.statement_of-written.ensures at c.writes-x.ensures) (rw c.statement_of-begun.ensures at c.reads-y.ensures))

pub overflow_cast-d : goal.overflow_cast-d
overflow_cast-d c = let s = sizes c.requires.held c.requires.held_2 c.requires.count_bound in omega arith

after-seam : (c : After-line-at-2) → Written (joined (statements c.args.road) (statements c.args.creeper)) c.args.out.now c.line-at-2.new.out c.line-at-2.result (c.args.road.count - 1 + 1)
after-seam c =
    let s = sizes c.requires.held c.requires.held_2 c.requires.count_bound in
    let e : c.loop-s.s ≡ c.args.road.count - 1 = omega (arith, c.loop-s.auto.s-end) in
    written-more (rw e at c.loop-s.invariant) (omega arith) _
    (seam-line c.requires.held.0 c.requires.held.1 c.requires.held_2.0 c.requires.held_2.1 refl _ _ (rw c.statement_of-written.ensures at c.writes-x.ensures) (rw c.statement_of-begun.ensures at c.reads-y.ensures))
    c.line-at-2.ensures

-- ---- the creeper's lines
pub loop-k-init : goal.loop-k-init
loop-k-init c = let s = sizes c.requires.held c.requires.held_2 c.requires.count_bound in behind-none (omega arith)

pub offset_bounds-creeper-k : goal.offset_bounds-creeper-k
offset_bounds-creeper-k c = let s = sizes c.requires.held c.requires.held_2 c.requires.count_bound in omega arith

pub bounds-creeper-k : goal.bounds-creeper-k
bounds-creeper-k c = let s = sizes c.requires.held c.requires.held_2 c.requires.count_bound in omega arith

pub moved-j-requires : goal.moved-j-requires
moved-j-requires c =
    let s = sizes c.requires.held c.requires.held_2 c.requires.count_bound in
    (rw c.statement_of-i-in-loop-k.ensures (creeper-targets c.requires.held.0 c.requires.held.1 c.requires.held_2.0 c.requires.held_2.1 c.loop-k.k c.loop-k-test.true), omega arith)

-- what is written before the line at place k
lines : (c : After-line-at-2) {q : List ℕ} {k j : ℕ} → Behind c.args.creeper.entries c.args.creeper.count (c.args.road.count - 1) c.line-at-2.new.out c.line-at-2.result q k j
    → Written (joined (statements c.args.road) (statements c.args.creeper)) c.args.out.now q k (c.args.road.count - 1 + j)
lines c i = i.further _ _ (creeper-lines c.requires.held.0 c.requires.held.1 c.requires.held_2.0 c.requires.held_2.1 refl) (after-seam c)

pub line-at-requires-in-loop-k : goal.line-at-requires-in-loop-k
line-at-requires-in-loop-k c =
    let l = creeper-lines c.requires.held.0 c.requires.held.1 c.requires.held_2.0 c.requires.held_2.1 refl c.loop-k.k c.loop-k.invariant.begun c.loop-k-test.true in
    line_room (lines (goal.at.line-at-requires-in-loop-k c).After-line-at-2 c.loop-k.invariant) l.1 _ ((rw c.statement_of-i-in-loop-k.ensures at c.moved-j.ensures) ∙ l.0)

pub loop-k-preserved : goal.loop-k-preserved
loop-k-preserved c =
    behind_more c.loop-k.invariant c.loop-k-test.true _
    (rw c.statement_of-i-in-loop-k.ensures at c.moved-j.ensures) c.line-at-in-loop-k.ensures

pub shape_of-out : goal.shape_of-out
shape_of-out c = written-length (lines (goal.at.shape_of-out c).After-line-at-2 c.loop-k.invariant)

pub returns : goal.returns
returns c =
    let s = sizes c.requires.held c.requires.held_2 c.requires.count_bound in
    written_all (lines (goal.at.returns c).After-line-at-2 c.loop-k.invariant) (omega (arith, c.loop-k.invariant.within))
