-- `kind` meets its contract: the second byte leads to each return as it leads `by_second`. Assumes nothing.
use borrow.Author.Tests.{ne_eqb}
use native.Mathlib.Omega.{arith}
use Rattle.marks.proofs.Spelling.{kind-short, kind-second}
use Rattle.marks.proofs.read.kind.Goals as goal

pub returns-then-s-at-lt2 : goal.returns-then-s-at-lt2
returns-then-s-at-lt2 c = record { result_value = rw (kind-short _ _ _ c.if-s-at-lt2.true); result_in_bounds = omega arith }

pub returns-in-109 : goal.returns-in-109
returns-in-109 c =
    record { result_value = rw (kind-second c.args.n c.args.s.now c.args.at (omega arith), c.in-109.is) c.computed.ensures.result_value; result_in_bounds = c.computed.ensures.result_in_bounds }

pub returns-in-112 : goal.returns-in-112
returns-in-112 c =
    record { result_value = rw (kind-second c.args.n c.args.s.now c.args.at (omega arith), c.in-112.is) c.rpl.ensures.result_value; result_in_bounds = c.rpl.ensures.result_in_bounds }

pub returns-in_default : goal.returns-in_default
returns-in_default c =
    let n = c.in_default.in_default-own.rest in
    record { result_value = rw (kind-second c.args.n c.args.s.now c.args.at (omega arith), ne_eqb _ 109 n.0.1, ne_eqb _ 112 n.1) c.computed-in_default.ensures.result_value; result_in_bounds = c.computed-in_default.ensures.result_in_bounds }
