-- `driver_reader::names` meets its contract. The invariant is `Reading`: a name begins at the position.
-- Assumes nothing.
use mathlib.Core.Path.{refl, sym, ◌∙◌}
use native.Mathlib.Omega.{arith}
use Rattle.driver_reader.proofs.Reading.{empty-named, reading-first, reading-end, reading-misspelled, name-valid, name-further, name-repeated, name-last, name-unspaced, name-next}
use Rattle.driver_reader.proofs.names.Goals as goal

pub returns-then-n-eq0 : goal.returns-then-n-eq0
returns-then-n-eq0 c = empty-named _ c.if-n-eq0.true _ c.requires.by_index

pub loop-at-init : goal.loop-at-init
loop-at-init c = (omega arith, refl, reading-first _ (omega (arith, c.if-n-eq0.false)) _ c.requires.by_index)

pub returns : goal.returns
returns c = reading-end _ _ _ c.loop-at.invariant.2 c.loop-at-test.false

pub contains-requires : goal.contains-requires
contains-requires c =
    let e = c.in-Some.ensures in
    omega (arith, name-valid _ _ _ c.loop-at.invariant.2 c.in-Some.x c.in-Some.k e.result_value, c.loop-at.invariant.1, c.requires.variables_in_bounds)

pub insert-requires : goal.insert-requires
insert-requires c =
    let e = c.in-Some.ensures in
    omega (arith, name-valid _ _ _ c.loop-at.invariant.2 c.in-Some.x c.in-Some.k e.result_value, c.loop-at.invariant.1, c.requires.variables_in_bounds)

pub loop-at-preserved : goal.loop-at-preserved
loop-at-preserved c =
    let e = c.in-Some.ensures in
    let off = sym c.contains.ensures ∙ c.if-contains.false in (
      omega (arith, c.in-Some.ensures.result_in_bounds, c.if-k-n.false),
      c.insert.auto.row ∙ c.loop-at.invariant.1,
      name-next _ _ _ c.loop-at.invariant.2 c.in-Some.x c.in-Some.k e.result_value off _ c.insert.ensures (omega (arith, c.in-Some.ensures.result_in_bounds, c.if-k-n.false)) c.if-s-k-ne32.false,
    )

pub loop-at-smaller : goal.loop-at-smaller
loop-at-smaller c =
    let e = c.in-Some.ensures in
    omega (arith, name-further _ _ _ c.loop-at.invariant.2 c.in-Some.x c.in-Some.k e.result_value c.loop-at.invariant.0 e.result_in_bounds, c.loop-at-test.true)

pub returns-in_default : goal.returns-in_default
returns-in_default c =
    let e = c.in_default.ensures in
    reading-misspelled _ _ _ c.loop-at.invariant.2 e.result_value

pub returns-then-contains : goal.returns-then-contains
returns-then-contains c =
    let e = c.in-Some.ensures in
    name-repeated _ _ _ c.loop-at.invariant.2 c.in-Some.x c.in-Some.k e.result_value (sym c.contains.ensures ∙ c.if-contains.true)

pub returns-then-k-n : goal.returns-then-k-n
returns-then-k-n c =
    let e = c.in-Some.ensures in
    let off = sym c.contains.ensures ∙ c.if-contains.false in
    name-last _ _ _ c.loop-at.invariant.2 c.in-Some.x c.in-Some.k e.result_value off _ c.insert.ensures (omega (arith, c.if-k-n.true))

pub returns-then-s-k-ne32 : goal.returns-then-s-k-ne32
returns-then-s-k-ne32 c =
    let e = c.in-Some.ensures in
    let off = sym c.contains.ensures ∙ c.if-contains.false in
    name-unspaced _ _ _ c.loop-at.invariant.2 c.in-Some.x c.in-Some.k e.result_value off _ c.insert.ensures (omega (arith, c.in-Some.ensures.result_in_bounds, c.if-k-n.false)) c.if-s-k-ne32.true
