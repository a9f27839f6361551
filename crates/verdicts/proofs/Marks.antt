-- The verdict of a mark, from the tests in their order. Assumes nothing.
use mathlib.Core.Path.{◌≡◌, sym, subst}
use mathlib.Core.Bool.{Bool, true, false}
use mathlib.Core.List.{List}
use Prim.Native.Nat.{ℕ, ◌+◌, ◌≤◌, ◌<◌}
use native.Mathlib.Omega.{arith}
use borrow.Author.Tests.{leb-true, leb-false}
use lib.Dec.{leb}
use lib.ListN.{length}
use Rattle.language.specs.declared.Statement.{Statement}
use Rattle.program.specs.Program.{most, at}
use Rattle.base.specs.Decides.{Decides}
use Rattle.program.specs.Reading.{statements, Held}
use Rattle.program.specs.declared.Program.{Program}
use Rattle.program.proofs.Held.{held, at_held, length-held}
use Rattle.table.specs.Known.{Known}
use Rattle.base.proofs.Decides.{decides}
use Rattle.bits.specs.Row.{member}
use Rattle.base.proofs.Bools.{clash}
use Rattle.labelling.specs.Labels.{Labelled}
use Rattle.truth.specs.Truth.{Sat}
use Rattle.marks.specs.Marks.{names}
use Rattle.marks.specs.declared.Mark.{Mark}
use Rattle.lockstep.specs.Rules.{Fits, Droppable, published}
use Rattle.rewriting.specs.Verdicts.{Inside, Named, place}
use Rattle.rewriting.specs.declared.Verdict.TheVariants.{Accepted, Missing, Repeated, Unfit, MayFault, Unmet}
use Rattle.verdicts.specs.Judging.{NamedIn, JudgedBy}

pub decides-inside : (k n : ℕ) (m : Mark) → k ≡ names m → 1 ≤ k → Decides (leb k n) (Inside n (names m))
decides-inside k n m is l =
    decides (leb k n)
    (λ e. let d : k ≤ n = leb-true k n e in (omega (arith, is), omega (arith, is)))
    (λ e i. let d : n < k = leb-false k n e in omega (arith, is, i.1))

-- the statement that the mark names is one of P, and one of all that there can be
pub inside_of : {P : List Statement} {n : ℕ} {rows : List ℕ} {codes : List (List ℕ)} {flow : List ℕ} → Known P n rows codes flow → (m : Mark) → Inside n (names m)
    → Inside (length P) (names m) × Inside most (names m)
inside_of k m i = ((i.0, omega (arith, i.1, k.size)), (i.0, omega (arith, i.1, k.size, k.few)))

-- it stands in the entries of the program's value
pub statement-at : (p : Program) → Held p → (m : Mark) (s : ℕ) → (Inside most (names m) → s ≡ place m) → Inside (length (statements p)) (names m)
    → at (statements p) (place m) ≡ held p.entries s
statement-at p h m s f i =
    let n = length-held p.entries p.count (omega (arith, h.room, h.few)) in
    rw (f (i.0, omega (arith, i.1, n, h.few))) (at_held p.entries p.count (place m) (omega (arith, i.0, i.1)))

-- the mark names the statement i of P, if one, and the row has what the earlier marks name
module _ (P : List Statement) (m : Mark) (i : Statement) (row : List ℕ) where
  pub judged-lacking : (Inside (length P) (names m) → ⊥) → JudgedBy P m i row Missing
  judged-lacking f earlier e g = f

  module _ (inside : Inside (length P) (names m)) where
    low : place m < length P
    low = omega (arith, inside.0, inside.1)

    back : place m + 1 ≡ names m
    back = omega (arith, inside.0)

    pub judged-repeated : member row (place m) ≡ true → JudgedBy P m i row Repeated
    judged-repeated t earlier e g = (inside, subst (Named earlier) back ((g.exact (place m) low).0 t))

    module _ (t : member row (place m) ≡ false) where
      fresh : (earlier : List Mark) → NamedIn (length P) row earlier → Named earlier (names m) → ⊥
      fresh earlier g k = clash ((g.exact (place m) low).1 (subst (Named earlier) (sym back) k)) t

      pub judged-unfit : (Fits m i → ⊥) → JudgedBy P m i row Unfit
      judged-unfit f earlier e g = (inside, fresh earlier g, rw (e inside) f)

      pub judged-may-fault : Fits m i → (Droppable m → ⊥) → JudgedBy P m i row MayFault
      judged-may-fault f d earlier e g = (inside, fresh earlier g, rw (e inside) f, d)

      module _ (f : Fits m i) (harmless : Droppable m) {y : ℕ → Bool} (l : Labelled (length P) y (Sat P (published m))) where
        pub judged-unmet : y (place m) ≡ false → JudgedBy P m i row Unmet
        judged-unmet d earlier e g = (inside, fresh earlier g, rw (e inside) f, harmless, λ x. clash ((l.exact (place m) low).1 x) d)

        pub judged-accepted : y (place m) ≡ true → JudgedBy P m i row Accepted
        judged-accepted d earlier e g = (inside, fresh earlier g, rw (e inside) f, harmless, (l.exact (place m) low).0 d)
