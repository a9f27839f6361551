-- `judge` meets its contract. Assumes nothing.
use mathlib.Core.Path.{◌≡◌, refl, sym, ◌∙◌}
use mathlib.Core.List.{List}
use mathlib.Core.Logic.{inl, inr}
use native.Mathlib.Omega.{arith}
use lib.ListN.{length}
use Rattle.program.specs.Program.{Taken}
use Rattle.program.specs.Reading.{statements, Held}
use Rattle.marks.specs.Reading as marks
use Rattle.marks.specs.declared.Mark.{Mark}
use Rattle.atoms.proofs.Found.{placeless}
use Rattle.calls.proofs.Known.{known-program}
use Rattle.judge.proofs.Judges.{some-judged, text-short, finished, none-judged, none_made}
use Rattle.std.proofs.lemmas.Result.{err_from_is_err_and}
use Rattle.judge.proofs.judge.Goals as goal
use Rattle.judge.proofs.judge.Goals.{In-Ok, In_ok-p}

-- the text that was read is taken
program-taken : (c : In_ok-p) → Taken c.args.program.now (statements c.in_ok-p.p) × Held c.in_ok-p.p
program-taken c = c.in_ok-p.ensures

-- and the list of marks
marks-taken : (c : In-Ok) → (ms : List Mark) × marks.Taken c.args.marks.now ms × (c.in-Ok.count ≡ length ms)
marks-taken c = let told = rw c.in-Ok.is at c.check.ensures in (told.0, told.1, told.2)

pub returns-then-verdicts-lt-VERDICT_BYTES : goal.returns-then-verdicts-lt-VERDICT_BYTES
returns-then-verdicts-lt-VERDICT_BYTES c = (inl (inl c.if-verdicts-lt-VERDICT_BYTES.true, refl), refl)

pub returns-then-text-lt-TEXT_BYTES : goal.returns-then-text-lt-TEXT_BYTES
returns-then-text-lt-TEXT_BYTES c = (inl (inr c.if-text-lt-TEXT_BYTES.true, refl), refl)

pub returns-in_err-p : goal.returns-in_err-p
returns-in_err-p c =
    let q = err_from_is_err_and c.from_residual.result c.from_residual.ensures.1 in
    rw (q.1, q.2) (inr (inl ((c.if-verdicts-lt-VERDICT_BYTES.false, c.if-text-lt-TEXT_BYTES.false), c.in_err-p.field-0.0, c.in_err-p.ensures, refl)), refl)

pub write-length-requires : goal.write-length-requires
write-length-requires c =
    let p = program-taken (goal.at.write-length-requires c).In_ok-p in
    let m = marks-taken (goal.at.write-length-requires c).In-Ok in
    let none : length m.0 ≡ 0 = sym m.2 ∙ c.if-count-eq0.true in
    record { held = p.1; p_in_bounds = omega (arith, c.if-text-lt-TEXT_BYTES.false, text-short p.0 m.1 (none-judged none _ _ c.args.verdicts.now) (none_made none _ p.1 _)) }

pub overflow_cast-result : goal.overflow_cast-result
overflow_cast-result c =
    let p = program-taken (goal.at.overflow_cast-result c).In_ok-p in
    let m = marks-taken (goal.at.overflow_cast-result c).In-Ok in
    let none : length m.0 ≡ 0 = sym m.2 ∙ c.if-count-eq0.true in
    omega (arith, c.write-length.ensures.after, text-short p.0 m.1 (none-judged none _ _ c.args.verdicts.now) (none_made none _ p.1 _))

pub returns-then-count-eq0 : goal.returns-then-count-eq0
returns-then-count-eq0 c =
    let p = program-taken (goal.at.returns-then-count-eq0 c).In_ok-p in
    let m = marks-taken (goal.at.returns-then-count-eq0 c).In-Ok in
    let none : length m.0 ≡ 0 = sym m.2 ∙ c.if-count-eq0.true in
    finished p.0 m.1 (none-judged none _ _ _) (none_made none _ p.1 _) (c.if-verdicts-lt-VERDICT_BYTES.false, c.if-text-lt-TEXT_BYTES.false) (sym none) c.write-length.ensures

pub find-requires : goal.find-requires
find-requires c =
    let p = program-taken (goal.at.find-requires c).In_ok-p in
    record { held = p.1; well_formed = p.0.program; placeless = placeless c.blank-rows.ensures }

pub of-requires : goal.of-requires
of-requires c = let p = program-taken (goal.at.of-requires c).In_ok-p in record { held = p.1; well_formed = p.0.program; flow_len = c.blank-flow.ensures.size }

pub judge-requires : goal.judge-requires
judge-requires c =
    let p = program-taken (goal.at.judge-requires c).In_ok-p in
    let m = marks-taken (goal.at.judge-requires c).In-Ok in
    let known = known-program {flow = c.of.new.flow} p.0 p.1 c.find.ensures c.blank_codes-codes.ensures.many c.of.ensures in
    record { held = (p.1, known (omega (arith, c.of.auto, c.blank-flow.ensures.size))); some_taken = (record { ms = m.0; taken = m.1 }, c.if-verdicts-lt-VERDICT_BYTES.false) }

pub rewrite-rewriting-requires : goal.rewrite-rewriting-requires
rewrite-rewriting-requires c =
    let p = program-taken (goal.at.rewrite-rewriting-requires c).In_ok-p in
    let m = marks-taken (goal.at.rewrite-rewriting-requires c).In-Ok in
    record { held = p.1; some_judged = some-judged p.0 m.1 (c.judge.ensures m.0 m.1).0 c.if-verdicts-lt-VERDICT_BYTES.false }

pub write-bytes-requires : goal.write-bytes-requires
write-bytes-requires c =
    let p = program-taken (goal.at.write-bytes-requires c).In_ok-p in
    let m = marks-taken (goal.at.write-bytes-requires c).In-Ok in
    let w = c.rewrite-rewriting.ensures m.0 m.1 in
    record { held = w.held; p_in_bounds = omega (arith, c.if-text-lt-TEXT_BYTES.false, text-short p.0 m.1 (c.judge.ensures m.0 m.1).0 w) }

pub overflow_cast-result-2 : goal.overflow_cast-result-2
overflow_cast-result-2 c =
    let p = program-taken (goal.at.overflow_cast-result-2 c).In_ok-p in
    let m = marks-taken (goal.at.overflow_cast-result-2 c).In-Ok in
    omega (arith, c.write-bytes.ensures.after, text-short p.0 m.1 (c.judge.ensures m.0 m.1).0 (c.rewrite-rewriting.ensures m.0 m.1))

pub returns-in-Err : goal.returns-in-Err
returns-in-Err c = (
  inr (inr ((c.if-verdicts-lt-VERDICT_BYTES.false, c.if-text-lt-TEXT_BYTES.false), statements c.in_ok-p.p, c.in_ok-p.ensures.0, c.in-Err.refusal, rw c.in-Err.is at c.check.ensures, refl)),
  refl,
)

pub returns : goal.returns
returns c =
    let p = program-taken (goal.at.returns c).In_ok-p in
    let m = marks-taken (goal.at.returns c).In-Ok in
    let judged = (c.judge.ensures m.0 m.1).0 in
    let rewritten = c.rewrite-rewriting.ensures m.0 m.1 in
    finished p.0 m.1 judged rewritten (c.if-verdicts-lt-VERDICT_BYTES.false, c.if-text-lt-TEXT_BYTES.false) m.2 c.write-bytes.ensures
