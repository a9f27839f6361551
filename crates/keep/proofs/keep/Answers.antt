-- `keep` meets its contract. Assumes nothing.
use mathlib.Core.Path.{refl}
use mathlib.Core.Logic.{inl, inr}
use Rattle.base.proofs.Decides.{decided-true}
use Rattle.std.proofs.lemmas.Result.{err_from_is_err_and}
use Rattle.stages.proofs.Places.{taken-short}
use Rattle.keep.proofs.Keeps.{chosen-inside, kept-finished}
use Rattle.keep.proofs.keep.Goals as goal

pub returns-in_err-read : goal.returns-in_err-read
returns-in_err-read c =
    let q = err_from_is_err_and c.from_residual.result c.from_residual.ensures.1 in
    rw (q.1, q.2) (inr (inl (c.if-stages-lt-STAGE_BYTES.false, c.in_err-read.field-0.0, c.in_err-read.ensures, refl)), refl)

pub write-requires : goal.write-requires
write-requires c =
    let read = c.in_ok-read.ensures in
    let chosen = rw c.in-Some.is at c.choose.ensures in
    (c.if-stages-lt-STAGE_BYTES.false, chosen-inside chosen, (decided-true c.valid.result c.if-not-valid.false c.valid.ensures).few, taken-short read.0)

pub returns : goal.returns
returns c =
    let read = c.in_ok-read.ensures in
    let chosen = rw c.in-Some.is at c.choose.ensures in
    kept-finished c.if-stages-lt-STAGE_BYTES.false read.0 (decided-true c.valid.result c.if-not-valid.false c.valid.ensures) chosen refl c.write.ensures
