-- `export` meets its contract: the answer of `review`, told case by case. Assumes nothing.
use Rattle.review.proofs.Reviews.{filled-few}
use mathlib.Core.Path.{refl}
use Rattle.host_review.proofs.export.Goals as goal

pub copy-requires : goal.copy-requires
copy-requires c = let f = c.in-Ok.ensures in (filled-few f, f.rest.sizes.0)

pub copy-requires-in-Ok : goal.copy-requires-in-Ok
copy-requires-in-Ok c = let f = c.in-Ok.ensures in (filled-few f, f.rest.sizes.1)

pub copy-requires-in-Ok-2 : goal.copy-requires-in-Ok-2
copy-requires-in-Ok-2 c = let f = c.in-Ok.ensures in (filled-few f, f.rest.sizes.2)

pub copy-requires-in-Ok-3 : goal.copy-requires-in-Ok-3
copy-requires-in-Ok-3 c = let f = c.in-Ok.ensures in (filled-few f, f.rest.sizes.3)

pub returns-in-Err : goal.returns-in-Err
returns-in-Err c = record { answer = c.review.result; answers = c.review.ensures; returned = rw c.in-Err.is (c.number.ensures, refl) }

pub returns-in-Ok : goal.returns-in-Ok
returns-in-Ok c =
    record {
      answer = c.review.result;
      answers = c.review.ensures;
      returned = rw c.in-Ok.is (refl, rw (c.copy.ensures, c.copy-in-Ok.ensures, c.copy-in-Ok-2.ensures, c.copy-in-Ok-3.ensures));
    }
