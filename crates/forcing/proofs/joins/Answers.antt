-- `forcing::joins` meets its contract, test by test; `rest` moves on past the edges that lead into the set.
-- Assumes nothing.
use mathlib.Core.Path.{sym, ◌∙◌}
use native.Mathlib.Omega.{arith}
use lib.ListN.{get_or}
use Rattle.bits.specs.Row.{member}
use Rattle.worklist.proofs.Rest.{rest-skip}
use Rattle.worklist.specs.Worklist.{Skipped}
use Rattle.forcing.proofs.Steps.{due-theirs}
use Rattle.forcing.proofs.joins.Goals as goal

pub returns : goal.returns
returns c =
    let w : Skipped c.args.steps.link.now c.args.steps.to.now (member c.args.set.now) (get_or c.args.rest.now c.args.s 0) c.skip-k.result = rw c.wide.ensures at c.skip-k.ensures in
    record { variant = due-theirs c.args.steps.head.now _ _ _ _ c.args.numbers.now _ c.if-numbers-s.false c.args.rest.now _ (sym c.contains.ensures ∙ c.if-contains.false) c.requires.linked c.requires.rest w; rest_2 = rest-skip _ _ _ _ _ _ _ ((omega (arith, c.requires.s_in_bounds, c.requires.rest.long))) c.requires.rest w }
