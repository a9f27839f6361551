-- The program's list is made in the lent words.
use mathlib.Core.Path.{refl}
use mathlib.Core.Logic.{inl, inr}
use native.Mathlib.Omega.{arith}
use Rattle.std.proofs.lemmas.Result.{err_from_is_err_and}
use Rattle.list.proofs.list.Goals as goal

pub returns-then-list-lt-LIST_WORDS : goal.returns-then-list-lt-LIST_WORDS
returns-then-list-lt-LIST_WORDS c = (inl (c.if-list-lt-LIST_WORDS.true, refl), refl)

pub returns-in_err-p : goal.returns-in_err-p
returns-in_err-p c =
    let q = err_from_is_err_and c.from_residual.result c.from_residual.ensures.1 in
    rw (q.1, q.2) (inr (c.if-list-lt-LIST_WORDS.false, c.in_err-p.field-0.0, c.in_err-p.ensures, refl), refl)

pub make-requires : goal.make-requires
make-requires c =
    let p = c.in_ok-p.ensures in record { held = p.1; well_formed = p.0.program; list_words_in_bounds = c.if-list-lt-LIST_WORDS.false }

pub listed-requires : goal.listed-requires
listed-requires c = omega (arith, c.make.ensures.beyond.same, c.if-list-lt-LIST_WORDS.false)

pub shape_of-list : goal.shape_of-list
shape_of-list c = c.make.ensures.beyond.same

pub returns : goal.returns
returns c = record {
  P = _;
  room = c.if-list-lt-LIST_WORDS.false;
  program = c.in_ok-p.ensures.0;
  made = c.make.ensures.listed;
  same = c.make.ensures.beyond.same;
  past = c.make.ensures.beyond.past;
  counted = c.listed.ensures;
}
