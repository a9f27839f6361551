-- `join` meets its contract. Assumes nothing.
use mathlib.Core.Path.{refl}
use mathlib.Core.Logic.{inl, inr}
use native.Mathlib.Omega.{arith}
use Rattle.program.specs.Reading.{statements}
use Rattle.joining.proofs.Written.{held-size}
use Rattle.join.specs.declared.Refusal.TheVariants.{Creeper}
use Rattle.join.proofs.Joins.{together, text-short, finished}
use Rattle.join.proofs.join.Goals as goal

pub returns-in-Err : goal.returns-in-Err
returns-in-Err c =
    (inr (inr (c.if-text-lt-TEXT_BYTES.false, statements c.in_ok-p.p, c.in_ok-p.ensures.0, Creeper c.in-Err.refusal, c.in-Err.ensures, refl)), (statements c.in_ok-p.p, c.in_ok-p.ensures.0), refl)

-- both fit together, and their text the room
pub write-bytes-requires-clause-creeper_in_bounds : goal.write-bytes-requires-clause-creeper_in_bounds
write-bytes-requires-clause-creeper_in_bounds c =
    let p = c.in_ok-p.ensures in
    let q = c.in-Ok.ensures in
    omega (arith, c.if-text-lt-TEXT_BYTES.false, text-short p.0 q.0 (together p.1 q.1 c.if-p-q.false))

pub overflow_cast-result-2 : goal.overflow_cast-result-2
overflow_cast-result-2 c =
    let p = c.in_ok-p.ensures in
    let q = c.in-Ok.ensures in
    omega (arith, c.write-bytes.ensures.after, text-short p.0 q.0 (together p.1 q.1 c.if-p-q.false))

pub returns : goal.returns
returns c =
    let p = c.in_ok-p.ensures in
    let q = c.in-Ok.ensures in
    finished p.0 q.0 (together p.1 q.1 c.if-p-q.false) c.if-text-lt-TEXT_BYTES.false (omega (arith, held-size p.1, held-size q.1)) c.write-bytes.ensures
