-- `first_broken` meets its contract. The invariant: the lines before the position are as the refusal asks. Assumes nothing.
use mathlib.Core.Path.{refl}
use Rattle.lines.proofs.Reading.{no_lines}
use Rattle.program.proofs.Texts.{statements-unambiguous}
use Rattle.base.proofs.Decides.{decided-true, decided-false}
use Rattle.blame.specs.Blame.{broken, none}
use Rattle.blame.proofs.Blames.{no_line, good_none, good_more, none-broken, first-broken}
use Rattle.blame.proofs.first_broken.Goals as goal

pub loop-at-init : goal.loop-at-init
loop-at-init c = good_none _ _ _

pub returns-in_default : goal.returns-in_default
returns-in_default c = λ P p e.
    absurd (no_lines c.loop-at.invariant.so statements-unambiguous (no_line _ c.loop-at.at c.in_default.is c.line.ensures) c.loop-at-test.true P p)

pub returns-then-not-keeps : goal.returns-then-not-keeps
returns-then-not-keeps c = λ P p e.
    let b = decided-false c.keeps.result c.if-not-keeps.true c.keeps.ensures in
    broken (first-broken c.loop-at.invariant P p e c.line.ensures c.in-Some.is b c.line_at-then-not-keeps.ensures)

pub loop-at-preserved : goal.loop-at-preserved
loop-at-preserved c =
    good_more c.loop-at.invariant c.line.ensures c.in-Some.is (decided-true c.keeps.result c.if-not-keeps.false c.keeps.ensures)

pub returns : goal.returns
returns c = λ P p e. none (none-broken c.loop-at.invariant P p e c.loop-at-test.false) refl
