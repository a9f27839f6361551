-- `read` meets its contract. The invariant: the lines before the position are taken and their parts numbered. Assumes nothing.
use mathlib.Core.Path.{◌≡◌}
use Rattle.review_reader.proofs.Walks.{walk_none, walk-line, walk_more, walk_refused, walk-few, walk-rest, walk-lines, walk-over, walk-held, walk_end}
use Rattle.sharing.specs.Sharing.{parts_of, most_lines}
use lib.ListN.{length}
use native.Mathlib.Omega.{arith}
use Prim.Native.Nat.{◌<◌}
use Rattle.review_reader.proofs.read.Goals as goal
use Rattle.review_reader.proofs.read.Goals.{At-loop-at, In-loop-at}

-- what is lent keeps its length
entries-same : (c : At-loop-at) → length c.loop-at.entries ≡ length c.args.entries.now
entries-same c = omega (arith, c.loop-at.invariant.many, c.requires.0.size)

numbers-same : (c : At-loop-at) → length c.loop-at.numbers ≡ length c.args.numbers.now
numbers-same c = omega (arith, c.loop-at.invariant.lines_of.room, c.requires.1.size)

counts_same : (c : At-loop-at) → length c.loop-at.counts ≡ length c.args.counts.now
counts_same c = omega (arith, c.loop-at.invariant.lines_of.room_counts, c.requires.2.size)

-- a line is left for the number of those that were read
few-lines : (c : In-loop-at) → c.loop-at.j < most_lines
few-lines c = walk-few c.loop-at.invariant c.line_count-n.ensures (omega arith) (omega arith) c.loop-at-test.true

pub loop-at-init : goal.loop-at-init
loop-at-init c = walk_none c.requires.0 c.blank_links-links.ensures c.blank_heads-heads.ensures c.requires.1 c.requires.2

pub line_end-end-requires : goal.line_end-end-requires
line_end-end-requires c = c.loop-at.invariant.so.within

pub overflow_sub-end : goal.overflow_sub-end
overflow_sub-end c = c.line_end-end.ensures.from

pub shape_of-entries-then-text-end : goal.shape_of-entries-then-text-end
shape_of-entries-then-text-end c = entries-same (goal.at.shape_of-entries-then-text-end c).At-loop-at

pub shape_of-numbers-then-text-end : goal.shape_of-numbers-then-text-end
shape_of-numbers-then-text-end c = numbers-same (goal.at.shape_of-numbers-then-text-end c).At-loop-at

pub shape_of-counts-then-text-end : goal.shape_of-counts-then-text-end
shape_of-counts-then-text-end c = counts_same (goal.at.shape_of-counts-then-text-end c).At-loop-at

pub returns-then-text-end : goal.returns-then-text-end
returns-then-text-end c =
    walk-rest c.loop-at.invariant c.line_count-n.ensures (omega arith) (omega arith) c.line_end-end.ensures c.if-text-end.true c.loop-at-test.true _ c.rest_refusal.ensures

pub slice_bounds-read-count : goal.slice_bounds-read-count
slice_bounds-read-count c = c.line_end-end.ensures.from

pub shape_of-entries-in-Err : goal.shape_of-entries-in-Err
shape_of-entries-in-Err c = entries-same (goal.at.shape_of-entries-in-Err c).At-loop-at

pub shape_of-numbers-in-Err : goal.shape_of-numbers-in-Err
shape_of-numbers-in-Err c = numbers-same (goal.at.shape_of-numbers-in-Err c).At-loop-at

pub shape_of-counts-in-Err : goal.shape_of-counts-in-Err
shape_of-counts-in-Err c = counts_same (goal.at.shape_of-counts-in-Err c).At-loop-at

pub returns-in-Err : goal.returns-in-Err
returns-in-Err c =
    let f = c.in-Err.ensures in
    walk_refused c.loop-at.invariant c.line_end-end.ensures c.if-text-end.false (few-lines (goal.at.returns-in-Err c).In-loop-at) c.line_count-n.ensures (omega arith) (omega arith) _ f

pub slice_bounds-number_line-end : goal.slice_bounds-number_line-end
slice_bounds-number_line-end c = omega (arith, c.loop-at.invariant.many_links)

pub slice_bounds-number_line-end-in-Ok : goal.slice_bounds-number_line-end-in-Ok
slice_bounds-number_line-end-in-Ok c = omega (arith, c.loop-at.invariant.many_heads)

pub number_line-line-requires : goal.number_line-line-requires
number_line-line-requires c =
    let h = c.in-Ok.ensures in
    record { ps = parts_of c.loop-at.invariant.cs; c = h.0; line = walk-line c.loop-at.invariant c.line_end-end.ensures c.if-text-end.false (few-lines (goal.at.number_line-line-requires c).In-loop-at) h.1 h.2; sharing = c.loop-at.invariant.sharing }

pub offset_bounds-numbers-j : goal.offset_bounds-numbers-j
offset_bounds-numbers-j c = omega (arith, few-lines (goal.at.offset_bounds-numbers-j c).In-loop-at)

pub bounds-numbers-j : goal.bounds-numbers-j
bounds-numbers-j c = omega (arith, c.loop-at.invariant.lines_of.room, few-lines (goal.at.bounds-numbers-j c).In-loop-at)

pub offset_bounds-counts-j : goal.offset_bounds-counts-j
offset_bounds-counts-j c = omega (arith, few-lines (goal.at.offset_bounds-counts-j c).In-loop-at)

pub bounds-counts-j : goal.bounds-counts-j
bounds-counts-j c = omega (arith, c.loop-at.invariant.lines_of.room_counts, few-lines (goal.at.bounds-counts-j c).In-loop-at)

pub overflow_add-j : goal.overflow_add-j
overflow_add-j c = omega (arith, few-lines (goal.at.overflow_add-j c).In-loop-at)

pub overflow_add-at : goal.overflow_add-at
overflow_add-at c =
    let h = c.in-Ok.ensures in
    omega (arith, walk_end c.loop-at.invariant c.line_end-end.ensures c.if-text-end.false (few-lines (goal.at.overflow_add-at c).In-loop-at) h.1 h.2)

pub loop-at-smaller : goal.loop-at-smaller
loop-at-smaller c = let x = c.line_end-end.ensures.from in omega arith

pub loop-at-preserved : goal.loop-at-preserved
loop-at-preserved c =
    let h = c.in-Ok.ensures in
    let few = few-lines (goal.at.loop-at-preserved c).In-loop-at in
    let line = walk-line c.loop-at.invariant c.line_end-end.ensures c.if-text-end.false few h.1 h.2 in
    walk_more c.loop-at.invariant c.line_end-end.ensures c.if-text-end.false few h.1 h.2 _ (c.number_line-line.ensures (parts_of c.loop-at.invariant.cs) h.0 line c.loop-at.invariant.sharing) c.number_line-line.auto.entries c.number_line-line.auto.links c.number_line-line.auto.heads

pub shape_of-entries-then-count-gt-MOST_TABLES : goal.shape_of-entries-then-count-gt-MOST_TABLES
shape_of-entries-then-count-gt-MOST_TABLES c = entries-same (goal.at.shape_of-entries-then-count-gt-MOST_TABLES c).At-loop-at

pub shape_of-numbers-then-count-gt-MOST_TABLES : goal.shape_of-numbers-then-count-gt-MOST_TABLES
shape_of-numbers-then-count-gt-MOST_TABLES c = numbers-same (goal.at.shape_of-numbers-then-count-gt-MOST_TABLES c).At-loop-at

pub shape_of-counts-then-count-gt-MOST_TABLES : goal.shape_of-counts-then-count-gt-MOST_TABLES
shape_of-counts-then-count-gt-MOST_TABLES c = counts_same (goal.at.shape_of-counts-then-count-gt-MOST_TABLES c).At-loop-at

pub returns-then-count-gt-MOST_TABLES : goal.returns-then-count-gt-MOST_TABLES
returns-then-count-gt-MOST_TABLES c = walk-over c.loop-at.invariant c.line_count-n.ensures (omega arith) (omega arith) c.loop-at-test.false c.if-count-gt-MOST_TABLES.true

pub overflow_cast-result-2 : goal.overflow_cast-result-2
overflow_cast-result-2 c = omega (arith, walk-lines c.loop-at.invariant c.line_count-n.ensures (omega arith) (omega arith) c.loop-at-test.false)

pub shape_of-entries : goal.shape_of-entries
shape_of-entries c = entries-same (goal.at.shape_of-entries c).At-loop-at

pub shape_of-numbers : goal.shape_of-numbers
shape_of-numbers c = numbers-same (goal.at.shape_of-numbers c).At-loop-at

pub shape_of-counts : goal.shape_of-counts
shape_of-counts c = counts_same (goal.at.shape_of-counts c).At-loop-at

pub returns : goal.returns
returns c =
    (c.loop-at.invariant.cs, walk-held c.loop-at.invariant c.line_count-n.ensures (omega arith) (omega arith) c.loop-at-test.false c.if-count-gt-MOST_TABLES.false)
