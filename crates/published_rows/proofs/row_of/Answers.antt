use native.Mathlib.Omega.{arith}
use Rattle.table.specs.Fill.{HeldOf}
use Rattle.table.proofs.Whole.{held-some}
use Rattle.published_rows.proofs.Rows.{read_held, not-refused, held-room, whole_row}
use Rattle.published_rows.proofs.row_of.Goals as goal
use Rattle.published_rows.proofs.row_of.Goals.{In-Ok}

pub returns-in_default : goal.returns-in_default
returns-in_default c = absurd (not-refused c.requires.small_taken _ (rw c.in_default.is at c.read.ensures))

-- the words that were read hold the condition
held : (c : In-Ok) → HeldOf c.args.text.now c.requires.small_taken.c c.in-Ok.reading.count c.in-Ok.reading.words
held c = read_held c.requires.small_taken c.in-Ok.reading (rw c.in-Ok.is at c.read.ensures)

pub fill-requires : goal.fill-requires
fill-requires c =
    record { some_known = c.requires.some_known; some_held = record { c = c.requires.small_taken.c; held = held (goal.at.fill-requires c).In-Ok }; parts_in_bounds = omega (arith, held-room c.requires.small_taken (held (goal.at.fill-requires c).In-Ok)) }

pub overflow_sub-last : goal.overflow_sub-last
overflow_sub-last c = omega (arith, held-some (held (goal.at.overflow_sub-last c).In-Ok))

pub row_of-requires : goal.row_of-requires
row_of-requires c =
    let h = held (goal.at.row_of-requires c).In-Ok in
    omega (arith, held-room c.requires.small_taken h, held-some h, (c.fill.ensures c.requires.some_known.P c.requires.small_taken.c c.requires.some_known.known h).same, c.blank_rows-parts_table.ensures.size)

pub returns : goal.returns
returns c =
    let h = held (goal.at.returns c).In-Ok in
    λ P k.
    let t = c.fill.ensures P c.requires.small_taken.c k h in
    rw c.row_of.ensures (whole_row c.requires.small_taken h (omega (arith, t.same, c.blank_rows-parts_table.ensures.size)) t)
