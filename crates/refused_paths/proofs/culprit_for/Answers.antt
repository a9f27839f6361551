-- `culprit_for` meets its contract, by the kind of the mark. Assumes nothing.
use Rattle.atoms.specs.Facts.{used_in}
use Rattle.refused_paths.proofs.Culprits.{by-use, by-reuse}
use mathlib.Core.Path.{sym, ◌∙◌}
use Rattle.refused_paths.proofs.culprit_for.Goals as goal

pub returns-then-contains : goal.returns-then-contains
returns-then-contains c = λ P f. rw c.in-Rm.is (λ uses ends. by-use (used_in c.args.rows.now) P _ _ _ c.requires.3 uses (sym c.contains.ensures ∙ c.if-contains.true))

pub spoilt_culprit-requires : goal.spoilt_culprit-requires
spoilt_culprit-requires c = let v = rw c.in-Rpl.is at c.requires.0 in (v.1, v.2, c.requires.1, c.requires.3)

pub spoilt_culprit-requires-in-Cse : goal.spoilt_culprit-requires-in-Cse
spoilt_culprit-requires-in-Cse c = let v = rw c.in-Cse.is at c.requires.0 in (v.1, v.2, c.requires.1, c.requires.3)

pub returns-else-contains : goal.returns-else-contains
returns-else-contains c = λ P f. rw c.in-Rm.is (λ uses ends. by-reuse (used_in c.args.rows.now) P _ _ _ c.requires.3 uses (sym c.contains.ensures ∙ c.if-contains.false) ends)

pub returns-in-Rpl : goal.returns-in-Rpl
returns-in-Rpl c = λ P f. rw c.in-Rpl.is (λ uses ends. (ends.1, c.spoilt_culprit.ensures P f ends.0))

pub returns-in-Cse : goal.returns-in-Cse
returns-in-Cse c = λ P f. rw c.in-Cse.is (λ uses ends. (ends.1, c.spoilt_culprit-in-Cse.ensures P f ends.0))
