use mathlib.Core.Path.{refl}
use mathlib.Core.Logic.{inl, inr}
use Rattle.std.proofs.lemmas.Result.{err_from_is_err_and}
use Rattle.program.specs.Reading.{statements}
use Rattle.relist.proofs.Rounds.{unchanged, relisted-as}
use Rattle.relist.proofs.relist.Goals as goal

pub returns-then-list-lt-LIST_WORDS : goal.returns-then-list-lt-LIST_WORDS
returns-then-list-lt-LIST_WORDS c = (inl (c.if-list-lt-LIST_WORDS.true, refl), refl)

pub returns-in_err-p : goal.returns-in_err-p
returns-in_err-p c =
    let q = err_from_is_err_and c.from_residual.result c.from_residual.ensures.1 in
    rw (q.1, q.2) (inr (inl (c.if-list-lt-LIST_WORDS.false, c.in_err-p.field-0.0, c.in_err-p.ensures, refl)), refl)

pub returns-in-Err : goal.returns-in-Err
returns-in-Err c = (inr (inr (c.if-list-lt-LIST_WORDS.false, statements c.in_ok-p.p, c.in_ok-p.ensures.0, c.in-Err.refusal, c.in-Err.ensures, refl)), refl)

pub rewritten-made-requires : goal.rewritten-made-requires
rewritten-made-requires c =
    let p = c.in_ok-p.ensures in
    let m = c.in-Ok.ensures in
    record { held = p.1; well_formed = p.0.program; some_taken = record { ms = m.0; taken = m.1 } }

-- no mark is accepted: the list is as it was
pub returns-then-made-eq0 : goal.returns-then-made-eq0
returns-then-made-eq0 c =
    let m = c.in-Ok.ensures in
    let r = c.rewritten-made.ensures m.0 m.1 in
    relisted-as c.if-list-lt-LIST_WORDS.false c.in_ok-p.ensures.0 m.1 r (unchanged r c.if-made-eq0.true _) c.listed.ensures

pub update-requires : goal.update-requires
update-requires c =
    let m = c.in-Ok.ensures in
    let r = c.rewritten-made.ensures m.0 m.1 in
    record { held = (c.in_ok-p.ensures.1, r.held, r.same); well_formed = r.program; list_words_in_bounds = c.if-list-lt-LIST_WORDS.false }

pub returns-else-made-eq0 : goal.returns-else-made-eq0
returns-else-made-eq0 c =
    let m = c.in-Ok.ensures in
    let r = c.rewritten-made.ensures m.0 m.1 in
    relisted-as c.if-list-lt-LIST_WORDS.false c.in_ok-p.ensures.0 m.1 r c.update.ensures c.listed-in-Ok.ensures
