-- `review` meets its contract. Assumes nothing.
use Rattle.review.proofs.Reviews.{few-tables, ok-holds, lines-rowed, reviewed}
use Rattle.atoms.proofs.Found.{placeless}
use Rattle.calls.proofs.Known.{known-program}
use Rattle.sharing.specs.Sharing.{parts_of}
use Rattle.table.specs.Known.{Known}
use Rattle.table.proofs.By.{known_in}
use Rattle.review_tables.proofs.Filled.{tables-by}
use Rattle.program.specs.Reading.{statements}
use Rattle.std.specs.Prelude.{Ok}
use Rattle.review_reader.specs.Walking.{ReviewRead}
use native.Mathlib.Omega.{arith}
use Rattle.review.proofs.review.Goals as goal
use Rattle.review.proofs.review.Goals.{After-of, In_ok-reading}

-- the conditions that were read
held : (c : In_ok-reading) → ReviewRead c.args.conditions.now (Ok c.in_ok-reading.reading) c.read-2.new.entries c.read-2.new.numbers c.read-2.new.counts
held c =
    ok-holds _ (λ r. ReviewRead c.args.conditions.now r c.read-2.new.entries c.read-2.new.numbers c.read-2.new.counts) _
    c.read-2.result c.read-2.ensures c.in_ok-reading.ensures.cases c.in_ok-reading.ensures.variant

pub find-requires : goal.find-requires
find-requires c = record { held = c.in_ok-p.ensures.1; well_formed = c.in_ok-p.ensures.0.program; placeless = placeless c.blank-rows.ensures }

pub of-requires : goal.of-requires
of-requires c = record { held = c.in_ok-p.ensures.1; well_formed = c.in_ok-p.ensures.0.program; flow_len = c.blank-flow.ensures.size }

-- what is known of the program once its facts are found and its graph is drawn
known : (c : After-of) → Known (statements c.in_ok-p.p) c.in_ok-p.p.count c.find.new.rows c.find.new.codes c.of.new.flow
known c = known-program {flow = c.of.new.flow} c.in_ok-p.ensures.0 c.in_ok-p.ensures.1 c.find.ensures c.blank_codes-codes.ensures.many c.of.ensures (omega (arith, c.of.auto, c.blank-flow.ensures.size))

pub fill-requires : goal.fill-requires
fill-requires c =
    let h = held (goal.at.fill-requires c).In_ok-reading in
    let s = h.1.shares in
    let b = c.blank_entries-entries.ensures.size in record { some_known = record { P = _; known = known_in (known (goal.at.fill-requires c).After-of) }; some_shares = record { ps = parts_of h.0; shares = s; many = omega (arith, s.counted, h.1.taken.few, c.read-2.auto, b) }; count_in_bounds = omega (arith, few-tables {cs = h.0} h.1, c.if-table-lt-REVIEW_WORDS.false) }

pub slice_bounds-count_lines-end : goal.slice_bounds-count_lines-end
slice_bounds-count_lines-end c = omega (arith, (held (goal.at.slice_bounds-count_lines-end c).In_ok-reading).1.lines_of.room)

pub count_lines-requires : goal.count_lines-requires
count_lines-requires c =
    let h = held (goal.at.count_lines-requires c).In_ok-reading in
    let f = c.fill.ensures _ (parts_of h.0) (known_in (known (goal.at.count_lines-requires c).After-of)) h.1.shares in
    record { rowed = lines-rowed {cs = h.0} h.1 _ (omega (arith, f.same, c.if-table-lt-REVIEW_WORDS.false)); zeros = (c.blank-satisfied.ensures, c.blank-first.ensures) }

pub returns : goal.returns
returns c =
    let h = held (goal.at.returns c).In_ok-reading in
    let k = known (goal.at.returns c).After-of in
    let f = c.fill.ensures _ (parts_of h.0) (known_in k) h.1.shares in
    reviewed {cs = h.0} h.1 (tables-by {ps = parts_of h.0} k h.1.shares f) c.in_ok-p.ensures.0 c.if-table-lt-REVIEW_WORDS.false c.count_lines.ensures
