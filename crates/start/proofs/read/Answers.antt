-- `read` meets its contract. The invariant: the lines before the position are read, and their numbers kept. Assumes nothing.
use mathlib.Core.Path.{refl, sym, ap, ◌∙◌}
use native.Mathlib.Omega.{arith}
use Rattle.tokens.specs.Parsing.{parsed, parsed_end, passed, passed_end}
use Rattle.tokens.proofs.Parse.{skip-sound}
use Rattle.start.proofs.Lines.{none_read, no_field, bounds, too_many, wrong_line, unended, other-end, inside, further, one_more, too_few, taken}
use Rattle.start.proofs.read.Goals as goal

pub loop-at-init : goal.loop-at-init
loop-at-init c = none_read c.args.s.now c.no_numbers-numbers.ensures

pub returns-then-n-eq-MOST : goal.returns-then-n-eq-MOST
returns-then-n-eq-MOST c = too_many c.loop-at.invariant c.if-n-eq-MOST.true c.loop-at-test.true

pub overflow_add-n : goal.overflow_add-n
overflow_add-n c = omega (arith, bounds c.loop-at.invariant)

pub overflow_add-result : goal.overflow_add-result
overflow_add-result c = omega (arith, bounds c.loop-at.invariant)

pub overflow_cast-result : goal.overflow_cast-result
overflow_cast-result c = omega (arith, bounds c.loop-at.invariant)

pub returns-in_default : goal.returns-in_default
returns-in_default c =
    wrong_line c.loop-at.invariant c.if-n-eq-MOST.false c.loop-at-test.true (no_field _ _ (sym c.field.ensures.result_value ∙ ap (parsed _) c.in_default.is))

pub overflow_add-result-then-end-s : goal.overflow_add-result-then-end-s
overflow_add-result-then-end-s c = omega (arith, bounds c.loop-at.invariant)

pub overflow_cast-result-then-end-s : goal.overflow_cast-result-then-end-s
overflow_cast-result-then-end-s c = omega (arith, bounds c.loop-at.invariant)

pub returns-then-end-s : goal.returns-then-end-s
returns-then-end-s c =
    let is = sym c.field.ensures.result_value ∙ ap (parsed _) c.in-Some.is in
    unended c.loop-at.invariant is {end = c.in-Some.end} refl (omega (arith, c.if-end-s.true))

pub overflow_add-result-in_default-word : goal.overflow_add-result-in_default-word
overflow_add-result-in_default-word c = omega (arith, bounds c.loop-at.invariant)

pub overflow_cast-result-in_default-word : goal.overflow_cast-result-in_default-word
overflow_cast-result-in_default-word c = omega (arith, bounds c.loop-at.invariant)

pub returns-in_default-word : goal.returns-in_default-word
returns-in_default-word c =
    let is = sym c.field.ensures.result_value ∙ ap (parsed _) c.in-Some.is in
    let other = sym c.word.ensures.result_value ∙ ap (passed _) c.in_default-word.is in
    let end = ap parsed_end c.in-Some.is in
    other-end c.loop-at.invariant is {end = c.in-Some.end} refl other (omega (arith, c.field.ensures.result_in_bounds, end, c.if-end-s.false)) c.if-n-eq-MOST.false c.loop-at-test.true

pub offset_bounds-numbers-p : goal.offset_bounds-numbers-p
offset_bounds-numbers-p c =
    omega (arith, inside c.loop-at.invariant (sym c.field.ensures.result_value ∙ ap (parsed _) c.in-Some.is), c.place-p.ensures)

pub bounds-numbers-p : goal.bounds-numbers-p
bounds-numbers-p c =
    omega (arith, inside c.loop-at.invariant (sym c.field.ensures.result_value ∙ ap (parsed _) c.in-Some.is), c.place-p.ensures)

pub overflow_add-k : goal.overflow_add-k
overflow_add-k c =
    omega (arith, inside c.loop-at.invariant (sym c.field.ensures.result_value ∙ ap (parsed _) c.in-Some.is), c.place-p.ensures)

pub loop-at-smaller : goal.loop-at-smaller
loop-at-smaller c =
    let is = sym c.field.ensures.result_value ∙ ap (parsed _) c.in-Some.is in
    let word = sym c.word.ensures.result_value ∙ ap (passed _) c.in-Some-word.is in
    further c.loop-at.invariant is (skip-sound _ _ word) (omega (arith, c.word.ensures.result_in_bounds (omega arith), ap passed_end c.in-Some-word.is))

pub loop-at-preserved : goal.loop-at-preserved
loop-at-preserved c =
    let is = sym c.field.ensures.result_value ∙ ap (parsed _) c.in-Some.is in
    let word = sym c.word.ensures.result_value ∙ ap (passed _) c.in-Some-word.is in
    rw (c.place-p.ensures, c.value.ensures)
    (one_more c.loop-at.invariant is (skip-sound _ _ word) (omega (arith, c.word.ensures.result_in_bounds (omega arith), ap passed_end c.in-Some-word.is)))

pub returns-then-n-lt-FEWEST : goal.returns-then-n-lt-FEWEST
returns-then-n-lt-FEWEST c = too_few c.loop-at.invariant c.loop-at-test.false c.if-n-lt-FEWEST.true

pub returns : goal.returns
returns c = taken c.loop-at.invariant c.loop-at-test.false _ c.if-n-lt-FEWEST.false c.values_of.ensures
