-- `step_lines` meets its contract: the lines of further steps, after which more are to come or all are told. Assumes nothing.
use mathlib.Core.Path.{refl, sym}
use mathlib.Core.Logic.{inl, inr}
use Rattle.side_by_side.proofs.Stepping.{more-steps, last-steps, never-apart}
use borrow.Author.Rules.{rules}
use Rattle.side_by_side.proofs.step_lines.Goals as goal

pub slice_bounds-steps-end : goal.slice_bounds-steps-end
slice_bounds-steps-end c = search rules

pub steps-r-requires : goal.steps-r-requires
steps-r-requires c = record { well_formed = c.requires.well_formed; well_formed_2 = c.requires.well_formed_2; q_len = c.requires.q_len; at_in_bounds = c.requires.at_in_bounds; live_len = sym (search rules) }

pub returns-in-Apart : goal.returns-in-Apart
returns-in-Apart c = λ t m u w values start one two.
    never-apart t m u _ w c.requires.stage_value start one two c.steps-r.ensures c.told.ensures c.in-Apart.is

pub returns-in-Ended : goal.returns-in-Ended
returns-in-Ended c = λ t m u w values start one two.
    last-steps t m u _ w c.requires.stage_value start one two c.steps-r.ensures c.told-in-Ended.ensures (inl c.in-Ended.is)

pub returns-then-budget-r : goal.returns-then-budget-r
returns-then-budget-r c = λ t m u w values start one two.
    last-steps t m u _ w c.requires.stage_value start one two c.steps-r.ensures c.told-then-budget-r.ensures (inr c.if-budget-r.true)

pub returns : goal.returns
returns c = λ t m u w values start one two.
    more-steps t m u _ w c.requires.stage_value start one two c.steps-r.ensures refl c.in-Paused.is c.if-budget-r.false c.requires.side_by_side_room_in_bounds
