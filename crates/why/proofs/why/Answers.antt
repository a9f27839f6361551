-- `why` meets its contract. Assumes nothing.
use Rattle.std.specs.Prelude.{Ok}
use Rattle.marks.specs.Reading.{SpanRead}
use Rattle.why.proofs.Answers.{told-missing}
use Rattle.why.proofs.Lines.{ok-holds, line-missing, line-mark}
use mathlib.Core.Path.{◌∙◌}
use Rattle.why.proofs.why.Goals as goal
use Rattle.why.proofs.why.Goals.{In_ok-place}

-- where the line stands
placed : (c : In_ok-place) → SpanRead c.args.marks.now c.args.line (Ok c.in_ok-place.place)
placed c = ok-holds _ (SpanRead c.args.marks.now c.args.line) _ c.span.result c.span.ensures c.in_ok-place.ensures.cases c.in_ok-place.ensures.variant

pub returns-in_default : goal.returns-in_default
returns-in_default c =
    let s = placed (goal.at.returns-in_default c).In_ok-place in
    let w = c.without_path.ensures in
    rw (w.1, w.2) (told-missing c.if-path-lt-PATH_WORDS.false c.in_ok-p.ensures.0 s.1 (line-missing s.1 s.2 s.3 c.line.ensures c.in_default.is) _ (w.0 ∙ c.from.ensures))

pub at_line-requires : goal.at_line-requires
at_line-requires c =
    let s = placed (goal.at.at_line-requires c).In_ok-place in
    (c.in_ok-p.ensures.1, (_, c.in_ok-p.ensures.0), line-mark s.1 s.2 s.3 c.line.ensures c.in-Some.is, c.if-path-lt-PATH_WORDS.false)

pub returns : goal.returns
returns c = c.at_line.ensures _ c.in_ok-p.ensures.0
