use native.Mathlib.Omega.{arith}
use Rattle.base.proofs.Decides.{decided-true, decided-false}
use Rattle.verdicts.proofs.Lists.{named_more, named-same}
use Rattle.verdicts.proofs.note.Goals as goal

pub returns-then-stands : goal.returns-then-stands
returns-then-stands c =
    λ n few s.
    let i = s.0 (decided-true c.stands.result c.if-stands.true c.stands.ensures) in
    named_more _ _ c.args.m n i.0 (rw (← c.place_of-place.ensures.1 (i.0, omega (arith, i.1))) c.insert.ensures)

pub returns-else-stands : goal.returns-else-stands
returns-else-stands c =
    λ n few s. named-same _ c.args.m n (λ i. decided-false c.stands.result c.if-stands.false c.stands.ensures (s.1 i))
