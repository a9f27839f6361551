use mathlib.Core.Path.{sym}
use Prim.Native.Nat.{◌≤◌}
use native.Mathlib.Omega.{arith}
use lib.ListN.{length}
use lib.Seq.{length-take-le}
use Rattle.condition.specs.Condition.{spell_condition}
use Rattle.lockstep.specs.Rules.{published}
use Rattle.published.proofs.Published.{published-short}
use Rattle.published_rows.proofs.Rows.{published-small, published-labelled}
use Rattle.statement_writer.proofs.Puts.{put_front, put-within}
use Rattle.published_rows.proofs.published_row.Goals as goal
use Rattle.published_rows.proofs.published_row.Goals.{After-blank_text-text}

-- the condition's text has room
room : (c : After-blank_text-text) → length (spell_condition (published c.args.m)) ≤ length c.blank_text-text.result
room c = omega (arith, published-short c.args.m c.requires.valid_mark, c.blank_text-text.ensures.size)

pub slice_bounds-text-end : goal.slice_bounds-text-end
slice_bounds-text-end c = put-within c.write_published-end.ensures (room (goal.at.slice_bounds-text-end c).After-blank_text-text)

pub slice_bounds-row_of-end : goal.slice_bounds-row_of-end
slice_bounds-row_of-end c = sym (length-take-le _ _ ((put-within c.write_published-end.ensures (room (goal.at.slice_bounds-row_of-end c).After-blank_text-text))))

pub row_of-requires : goal.row_of-requires
row_of-requires c =
    record { some_known = c.requires.some_known; small_taken = published-small c.args.m c.requires.valid_mark _ (put_front c.write_published-end.ensures (room (goal.at.row_of-requires c).After-blank_text-text)) }

pub returns : goal.returns
returns c =
    let text = put_front c.write_published-end.ensures (room (goal.at.returns c).After-blank_text-text) in
    λ P k. published-labelled c.args.m c.requires.valid_mark _ text (c.row_of.ensures P k)
