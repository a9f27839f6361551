-- `judge` meets its contract: the verdicts by the program's own uses, and where a `cse` was accepted, those by the widened ones. Assumes nothing.
use mathlib.Core.Path.{◌∙◌}
use mathlib.Core.Logic.{inl}
use native.Mathlib.Omega.{arith}
use lib.ListN.{take}
use Rattle.program.specs.Reading.{statements}
use Rattle.truth.specs.Truth.{uses_of}
use Rattle.table.proofs.By.{known_in}
use Rattle.marks.specs.Marks.{mark_at}
use Rattle.rewriting.specs.Verdicts.{Widened}
use Rattle.rewriting.proofs.Uses.{judged-as}
use Rattle.widening.proofs.Again.{verdicts-by}
use Rattle.widening.proofs.Uses.{none-widened}
use Rattle.widening.proofs.judge.Goals as goal

pub widen-requires : goal.widen-requires
widen-requires c =
    let list = c.requires.some_taken.0 in
    (list, c.requires.held.1.found.many, omega (arith, (c.judge.ensures list.ms list.taken).0.same, c.requires.some_taken.1))

pub judge_again-requires : goal.judge_again-requires
judge_again-requires c =
    let list = c.requires.some_taken.0 in
    let first = (c.judge.ensures list.ms list.taken).0 in
    let wide = c.widen.ensures (statements c.args.p) _ _ _ c.requires.held.1 list.ms list.taken first.judged in
    record { some_known = record { P = statements c.args.p; known = known_in wide }; some_taken = (list, omega (arith, first.same, c.requires.some_taken.1)) }

pub returns-then-judge : goal.returns-then-judge
returns-then-judge c = λ ms t.
    let P = statements c.args.p in
    let first = (c.judge.ensures ms t).0 in
    let wide = c.widen.ensures P _ _ _ c.requires.held.1 ms t first.judged in
    let by = verdicts-by wide t (c.judge_again.ensures P (known_in wide) ms t first.judged) in
    (record { judged = by.judged; same = by.same ∙ first.same; past = λ j l. by.past j l ∙ first.past j l }, wide)

pub returns-else-judge : goal.returns-else-judge
returns-else-judge c = λ ms t.
    let P = statements c.args.p in
    let told = c.judge.ensures ms t in
    let first = told.0 in (
      record {
        judged = λ j l.
            let v = first.judged j l in
            (v.0, judged-as (uses_of P) (Widened P ms) P (take j ms) (λ x p. (inl, told.1 c.if-judge.false x p)) (mark_at ms j) v.0 v.1, v.2);
        same = first.same;
        past = first.past;
      },
      none-widened ms c.requires.held.1 (told.1 c.if-judge.false),
    )
