-- `byte_again` meets its contract: the byte as it was, or by the row of the mark's condition. Assumes nothing.
use Rattle.language.specs.declared.Statement.{Statement}
use mathlib.Core.Path.{◌≡◌, sym, ◌∙◌, subst}
use mathlib.Core.List.{List}
use Prim.Native.Nat.{◌≤◌}
use native.Mathlib.Omega.{arith}
use lib.ListN.{length}
use Rattle.program.specs.Program.{most}
use Rattle.truth.specs.Truth.{uses_of}
use Rattle.atoms.specs.Facts.{used_in}
use Rattle.base.proofs.Decides.{decided-true, decided-false}
use Rattle.marks.specs.Marks.{names}
use Rattle.rewriting.specs.Verdicts.{Inside, place}
use Rattle.rewriting.specs.declared.Verdict.TheVariants.{Accepted, Unmet}
use Rattle.widening.specs.Widening.{Open}
use Rattle.widening.proofs.Again.{open-keyed, kept-judged, open-came, again-accepted, again-unmet}
use Rattle.widening.proofs.byte_again.Goals as goal
use Rattle.widening.proofs.byte_again.Goals.{After-contains, Else-not-is_open}

-- the mark came to its condition
is-by-condition : (c : Else-not-is_open) → Open c.args.m c.args.b
is-by-condition c = decided-true c.is_open.result c.if-not-is_open.false c.is_open.ensures

pub returns-then-not-is_open : goal.returns-then-not-is_open
returns-then-not-is_open c =
    let closed = decided-false c.is_open.result c.if-not-is_open.true c.is_open.ensures in
    ((λ P k earlier v h e. (v, kept-judged (uses_of P) (used_in c.args.rows.now) P earlier c.args.m v (λ o. closed (subst (Open c.args.m) (sym e) o)) h, e)), c.requires.valid_mark.1)

pub remembered_row-row-requires : goal.remembered_row-row-requires
remembered_row-row-requires c =
    record { some_known = c.requires.some_known; valid_mark = (c.requires.valid_mark.0, open-keyed c.args.m c.args.b (is-by-condition (goal.at.remembered_row-row-requires c).Else-not-is_open), c.requires.valid_mark.1) }

pub contains-requires : goal.contains-requires
contains-requires c =
    let k = c.requires.some_known in
    omega (arith, c.place_of-place.ensures.0, (c.remembered_row-row.ensures.0 k.P k.known).1)

-- the place is the mark's own
placed : (c : After-contains) (P : List Statement) → length P ≤ most → Inside (length P) (names c.args.m) → c.place_of-place.result ≡ place c.args.m
placed c P few i = c.place_of-place.ensures.1 (i.0, omega (arith, i.1, few))

pub returns-then-contains : goal.returns-then-contains
returns-then-contains c = (
  (λ P k earlier v h e.
      let o = subst (Open c.args.m) e (is-by-condition (goal.at.returns-then-contains c).Else-not-is_open) in
      let i = open-came (uses_of P) (used_in c.args.rows.now) P earlier c.args.m v o h in (
        Accepted,
        again-accepted (uses_of P) (used_in c.args.rows.now) P earlier c.args.m v o h c.remembered_row-row.result (c.remembered_row-row.ensures.0 P k)
            (rw (← placed (goal.at.returns-then-contains c).After-contains P k.few i.0) (sym c.contains.ensures ∙ c.if-contains.true)),
        c.from.ensures,
      )),
  c.remembered_row-row.ensures.1,
)

pub returns : goal.returns
returns c = (
  (λ P k earlier v h e.
      let o = subst (Open c.args.m) e (is-by-condition (goal.at.returns c).Else-not-is_open) in
      let i = open-came (uses_of P) (used_in c.args.rows.now) P earlier c.args.m v o h in (
        Unmet,
        again-unmet (uses_of P) (used_in c.args.rows.now) P earlier c.args.m v o h c.remembered_row-row.result (c.remembered_row-row.ensures.0 P k)
            (rw (← placed (goal.at.returns c).After-contains P k.few i.0) (sym c.contains.ensures ∙ c.if-contains.false)),
        c.from-2.ensures,
      )),
  c.remembered_row-row.ensures.1,
)
