use mathlib.Core.Path.{◌≡◌, sym, ◌∙◌}
use mathlib.Core.Bool.{false}
use native.Mathlib.Omega.{arith}
use Rattle.base.proofs.Decides.{decided-true, decided-false}
use mathlib.Core.List.{List}
use lib.ListN.{length}
use Rattle.language.specs.declared.Statement.{Statement}
use Rattle.program.specs.Program.{most}
use Rattle.table.specs.Known.{Known}
use Rattle.table.proofs.By.{known_in}
use Rattle.published_rows.proofs.Rows.{row_by}
use Rattle.published_rows.proofs.Memory.{fits-keyed}
use Rattle.bits.specs.Row.{member}
use Rattle.lockstep.specs.Rules.{Fits, Droppable}
use Rattle.rewriting.specs.Verdicts.{Inside, place}
use Rattle.marks.specs.Marks.{names}
use Rattle.verdicts.proofs.Marks.{inside_of, judged-lacking, judged-repeated, judged-unfit, judged-may-fault, judged-unmet, judged-accepted}
use Rattle.verdicts.proofs.verdict_of.Goals as goal
use Rattle.verdicts.proofs.verdict_of.Goals.{Else-missing, Else-not-droppable, Else-not-fits, Else-repeated}

-- ---- what the tests say, one after the other, of every program that the facts and the graph are of

-- the statement that the mark names is one of P
inside : (c : Else-missing) {P : List Statement} → Known P c.args.n c.args.rows.now c.args.codes.now c.args.flow.now → Inside (length P) (names c.args.m) × Inside most (names c.args.m)
inside c k = inside_of k c.args.m (decided-true c.is_inside-missing.result c.if-missing.false c.is_inside-missing.ensures)

placed : (c : Else-missing) {P : List Statement} → Known P c.args.n c.args.rows.now c.args.codes.now c.args.flow.now → c.place_of-place.result ≡ place c.args.m
placed c k = c.place_of-place.ensures.1 (inside c k).1

-- no earlier line names it
unnamed : (c : Else-repeated) → c.place_of-place.result ≡ place c.args.m → member c.args.named.now (place c.args.m) ≡ false
unnamed c e = rw (← e) (sym c.contains-repeated.ensures ∙ c.if-repeated.false)

-- the mark fits
fits : (c : Else-not-fits) → Fits c.args.m c.args.i
fits c = decided-true c.fits.result c.if-not-fits.false c.fits.ensures

-- and drops nothing that may fault
harmless : (c : Else-not-droppable) → Droppable c.args.m
harmless c = decided-true c.droppable.result c.if-not-droppable.false c.droppable.ensures

pub is_inside-missing-requires : goal.is_inside-missing-requires
is_inside-missing-requires c = let k = c.requires.some_known.known in omega (arith, k.size, k.few)

pub returns-then-missing : goal.returns-then-missing
returns-then-missing c = (
  λ P k. judged-lacking P c.args.m c.args.i _ (λ i. decided-false c.is_inside-missing.result c.if-missing.true c.is_inside-missing.ensures (rw k.size at i)),
  c.requires.remembering,
)

pub returns-then-repeated : goal.returns-then-repeated
returns-then-repeated c =
    let at = (goal.at.returns-then-repeated c).Else-missing in (
      λ P k. judged-repeated P c.args.m c.args.i _ (inside at k).0 (rw (← placed at k) (sym c.contains-repeated.ensures ∙ c.if-repeated.true)),
      c.requires.remembering,
    )

pub returns-then-not-fits : goal.returns-then-not-fits
returns-then-not-fits c =
    let at = (goal.at.returns-then-not-fits c).Else-missing in (
      λ P k. judged-unfit P c.args.m c.args.i _ (inside at k).0 (unnamed (goal.at.returns-then-not-fits c).Else-repeated (placed at k))
          (decided-false c.fits.result c.if-not-fits.true c.fits.ensures),
      c.requires.remembering,
    )

pub returns-then-not-droppable : goal.returns-then-not-droppable
returns-then-not-droppable c =
    let to = goal.at.returns-then-not-droppable c in (
      λ P k. judged-may-fault P c.args.m c.args.i _ (inside to.Else-missing k).0 (unnamed to.Else-repeated (placed to.Else-missing k)) (fits to.Else-not-fits)
          (decided-false c.droppable.result c.if-not-droppable.true c.droppable.ensures),
      c.requires.remembering,
    )

pub remembered_row-row-requires : goal.remembered_row-row-requires
remembered_row-row-requires c =
    record { some_known = c.requires.some_known; valid_mark = (c.requires.valid_mark.0, fits-keyed c.args.m c.args.i (fits (goal.at.remembered_row-row-requires c).Else-not-fits), c.requires.remembering) }

pub contains-requires : goal.contains-requires
contains-requires c =
    let k = c.requires.some_known in
    omega (arith, c.place_of-place.ensures.0, (c.remembered_row-row.ensures.0 k.P k.known).1)

pub returns-then-not-contains : goal.returns-then-not-contains
returns-then-not-contains c =
    let to = goal.at.returns-then-not-contains c in (
      λ P k. judged-unmet P c.args.m c.args.i _ (inside to.Else-missing k).0 (unnamed to.Else-repeated (placed to.Else-missing k)) (fits to.Else-not-fits) (harmless to.Else-not-droppable) (row_by k c.args.m c.requires.valid_mark.0 _ (c.remembered_row-row.ensures.0 P (known_in k))).0
          (rw (← placed to.Else-missing k) (sym c.contains.ensures ∙ c.if-not-contains.true)),
      c.remembered_row-row.ensures.1,
    )

pub returns : goal.returns
returns c =
    let to = goal.at.returns c in (
      λ P k. judged-accepted P c.args.m c.args.i _ (inside to.Else-missing k).0 (unnamed to.Else-repeated (placed to.Else-missing k)) (fits to.Else-not-fits) (harmless to.Else-not-droppable) (row_by k c.args.m c.requires.valid_mark.0 _ (c.remembered_row-row.ensures.0 P (known_in k))).0
          (rw (← placed to.Else-missing k) (sym c.contains.ensures ∙ c.if-not-contains.false)),
      c.remembered_row-row.ensures.1,
    )
