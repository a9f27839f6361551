use native.Mathlib.Numerals.{add-one}
use Rattle.std.proofs.lemmas.Result.{err_from_is_err_and}
use Rattle.marks.proofs.read.span.Goals as goal

pub returns-in_err-check : goal.returns-in_err-check
returns-in_err-check c = let q = err_from_is_err_and c.from_residual.result c.from_residual.ensures.1 in rw (q.1, q.2) c.in_err-check.ensures

pub returns : goal.returns
returns c =
    let l = c.in_ok-check.ensures in
    (l.0, l.1, l.3, c.begin_of-begin.ensures l.0 l.1, rw add-one at (c.begin_of-end.ensures l.0 l.1))
