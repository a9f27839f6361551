-- `spoilt_culprit` meets its contract, by the row of the definitions and that of the kept expression. Assumes nothing.
use Rattle.refused_paths.proofs.Culprits.{by-definition, by-spoiling, by-start}
use mathlib.Core.Path.{sym, ◌∙◌}
use Rattle.refused_paths.proofs.spoilt_culprit.Goals as goal

pub returns-then-contains : goal.returns-then-contains
returns-then-contains c = λ P f touched. by-definition P _ c.args.e _ _ c.requires.3 touched (c.row.ensures P f.size f.facts) (sym c.contains.ensures ∙ c.if-contains.true)

pub returns-then-not-contains : goal.returns-then-not-contains
returns-then-not-contains c = λ P f touched.
    let defined = c.row.ensures P f.size f.facts in
    let kept = c.row-2.ensures P f.size f.facts in
    by-spoiling P _ c.args.e _ _ c.requires.3 touched defined (sym c.contains.ensures ∙ c.if-contains.false) kept (sym c.contains-2.ensures ∙ c.if-not-contains.true)
