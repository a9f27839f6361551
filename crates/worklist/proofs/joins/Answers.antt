-- `worklist::joins` meets its contract: for all paths, where no edge of s is left after those that lead into the set.
-- Assumes nothing.
use mathlib.Core.Path.{sym, ◌∙◌}
use lib.ListN.{get_or}
use Rattle.bits.specs.Row.{member}
use Rattle.worklist.specs.Worklist.{Skipped}
use Rattle.worklist.proofs.Rest.{ready-all}
use Rattle.worklist.proofs.joins.Goals as goal

pub returns-then-all-clause-variant : goal.returns-then-all-clause-variant
returns-then-all-clause-variant c =
    let w : Skipped c.args.steps.link.now c.args.steps.to.now (member c.args.set.now) (get_or c.args.rest.now c.args.s 0) c.skip-k.result = rw c.from.ensures at c.skip-k.ensures in
    ready-all c.args.steps.head.now _ _ _ _ _ _ c.args.rest.now _ (sym c.contains.ensures ∙ c.if-contains.false) (sym c.contains-2.ensures ∙ c.if-contains-2.true) c.if-all.true c.requires.linked c.requires.rest w
